pub mod Adding
pub mod AllFrames
pub mod Any
pub mod Beginning
pub mod Counted
pub mod Split
pub mod Standing
pub mod Taking
