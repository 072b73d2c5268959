pub mod Edits
pub mod NearEdits
pub mod Walks
