pub mod Carried
pub mod Given
pub mod MendedElements
pub mod Mistyped
