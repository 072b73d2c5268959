pub mod Hints
pub mod Hrp
pub mod HrpBytes
pub mod Iterators
pub mod Sink
