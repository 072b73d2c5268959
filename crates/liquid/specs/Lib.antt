pub mod Confidential
pub mod Numbers
pub mod Parts
pub mod Read
pub mod Refusals
pub mod Writing
