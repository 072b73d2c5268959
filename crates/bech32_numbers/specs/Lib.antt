pub mod Message
pub mod Numbers
pub mod Refused
pub mod Sentences
