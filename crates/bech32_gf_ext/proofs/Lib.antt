pub mod Norms
pub mod Products
