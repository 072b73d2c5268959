pub mod Block
pub mod Constants
pub mod Hex
pub mod Print
pub mod Refusals
pub mod Representation
pub mod Roots
pub mod Series
