pub mod Coefficients
pub mod Shown
pub mod Sums
