pub mod columns
pub mod confidential
pub mod descriptor
