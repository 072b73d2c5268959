pub mod Cleaned
pub mod Frames
pub mod Fronts
pub mod Readings
pub mod Slips
pub mod Tries
