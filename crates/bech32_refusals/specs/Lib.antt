pub mod ResidueRows
pub mod ResidueText
pub mod SegwitRules
pub mod Texts
