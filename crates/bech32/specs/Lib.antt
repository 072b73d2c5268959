pub mod Contents
pub mod Elements
pub mod Long
pub mod Refusals
pub mod Spelling
pub mod WayBack
pub mod Writing
