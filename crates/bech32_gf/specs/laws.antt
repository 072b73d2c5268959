-- What the laws of traits are proved by.
pub mod Below
pub mod Divisors
pub mod Fe32Laws
pub mod FieldLaws
pub mod Gf32Laws
pub mod Orders
pub mod Ring
