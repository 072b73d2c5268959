pub mod Fronts
pub mod SegwitDecoding
pub mod SegwitEncoding
