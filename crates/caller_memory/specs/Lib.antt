pub mod Lent
pub mod Memory
pub mod Ownership
