pub mod Added
pub mod Nearest
pub mod Sketch
pub mod Steps
