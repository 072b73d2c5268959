pub mod Exponents
pub mod Found
pub mod Lawful
pub mod Pairs
pub mod RootList
pub mod Terms
pub mod Walks
