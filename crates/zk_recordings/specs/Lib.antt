pub mod Parts
pub mod HeadLimits
pub mod Recording
pub mod Reader
pub mod Reading
pub mod Heads
pub mod Pieces
