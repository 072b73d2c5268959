-- What the laws of the checksums are proved by.
pub mod CodeLaws
pub mod LengthLaws
pub mod LongCodeLaws
pub mod LongRootLaws
pub mod RootLaws
