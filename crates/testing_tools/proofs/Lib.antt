mod Turns
pub mod Checksums
pub mod Cuts
