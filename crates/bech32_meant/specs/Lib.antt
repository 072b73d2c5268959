pub mod Added
pub mod Meant
