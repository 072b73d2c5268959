pub mod Bursts
pub mod Distance
pub mod Rows
pub mod Texts
