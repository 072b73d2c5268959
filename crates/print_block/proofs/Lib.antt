pub mod Blocks
pub mod Elements
