pub mod Contents
pub mod Decoding
pub mod RoundTrip
pub mod Spellings
pub mod Values
pub mod Writing
