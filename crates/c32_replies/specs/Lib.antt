pub mod Numbers
pub mod Reply
pub mod Request
pub mod Split
