pub mod Characters
pub mod Doublings
pub mod Logarithms
pub mod Orders
pub mod PlainProduct
