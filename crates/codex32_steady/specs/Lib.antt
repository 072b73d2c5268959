pub mod Masks
pub mod shares
pub mod texts
