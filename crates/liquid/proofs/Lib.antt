pub mod ReadParts
pub mod Refused
pub mod Spelling
pub mod Versions
pub mod Written
