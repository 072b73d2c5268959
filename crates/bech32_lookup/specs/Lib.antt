pub mod Carried
pub mod Equations
pub mod Found
pub mod Multiple
pub mod Question
pub mod TakenOff
