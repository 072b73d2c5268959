pub mod Cubic
pub mod ExtensionCode
pub mod Fe1024
pub mod Fe32768
pub mod Fe32Ext
pub mod Quadratic
pub mod laws
