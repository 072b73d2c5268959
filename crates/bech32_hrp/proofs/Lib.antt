pub mod HrpParts
pub mod HrpScan
pub mod HrpTexts
pub mod Lowered
pub mod MappedInPlace
pub mod Pieces
