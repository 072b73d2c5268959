pub mod Iterators
pub mod Seven
pub mod TestWords
pub mod PlainChecksum
