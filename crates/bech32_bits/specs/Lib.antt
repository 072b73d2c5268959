pub mod Adaptor
pub mod Bits
pub mod BytesToFes
pub mod FesToBytes
pub mod SizeHints
pub mod Walks
