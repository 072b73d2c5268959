pub mod Adding
pub mod Errors
pub mod Forms
pub mod Fronts
pub mod Reading
