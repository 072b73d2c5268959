pub mod OneAnswer
pub mod Replies
pub mod Shares
pub mod Sizes
pub mod SplitAnswer
pub mod Texts
pub mod Words
