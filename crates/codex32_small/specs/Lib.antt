pub mod Code
pub mod Given
pub mod Parts
