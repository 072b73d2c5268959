pub mod SegwitDecoding
pub mod SegwitEncoding
pub mod Unchecked
