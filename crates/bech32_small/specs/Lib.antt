pub mod Check
pub mod Target
