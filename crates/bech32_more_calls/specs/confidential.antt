pub mod Address
pub mod Nearest
pub mod Numbers
