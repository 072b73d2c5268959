pub mod Arrays
pub mod Checked
pub mod Decoded
pub mod Encoded
pub mod Rows
pub mod Validity
