pub mod Adding
pub mod Complete
pub mod Growing
pub mod Itself
pub mod Refused
