pub mod Found
pub mod Numbers
pub mod Reply
pub mod Request
