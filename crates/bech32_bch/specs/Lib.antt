pub mod Detection
pub mod Distance
pub mod Erasures
pub mod Knock
pub mod Listing
pub mod Pattern
pub mod Search
