pub mod Asked
pub mod Refusals
pub mod Words
