-- What the laws of traits are proved by.
pub mod CharacteristicTwo
pub mod Fe1024Laws
pub mod Fe1024Orders
pub mod Fe32768Laws
pub mod Fe32768Orders
pub mod Fe32ExtLaws
pub mod Fe32Squares
pub mod Nonzero
