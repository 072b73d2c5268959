pub mod Differing
pub mod Nearby
pub mod Found
pub mod OutOfMemory
pub mod Within
pub mod Coded
pub mod Elements
pub mod Entries
pub mod Highest
pub mod NearestAdded
pub mod NearestAlone
pub mod NearestAnswers
pub mod NearestErrorless
pub mod NearestErrors
pub mod NearestListing
pub mod NearestLists
pub mod NearestPatterns
pub mod SketchSums
pub mod Sketches
pub mod Skipped
pub mod Tables
mod Characters
mod Kept
mod Listed
mod Made
mod Once
mod Parts
mod Located
mod Sums
mod Told
mod Verdicts
mod Words
