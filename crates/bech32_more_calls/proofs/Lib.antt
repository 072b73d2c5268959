pub mod Bits
pub mod Held
pub mod Rowed
pub mod Said
pub mod Small
pub mod Written
mod Puts
mod TwoPuts
pub mod Addresses
pub mod Near
