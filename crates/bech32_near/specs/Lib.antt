pub mod NearTexts
pub mod search
pub mod edits
