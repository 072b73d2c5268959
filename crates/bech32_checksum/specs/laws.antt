-- What the laws of traits are proved by.
pub mod CodeLaws
pub mod LocatorLaws
pub mod PackedLaws
pub mod RootLaws
pub mod WordLaws
