pub mod Chance
pub mod Forms
pub mod Mendings
pub mod Suggestions
pub mod Typed
