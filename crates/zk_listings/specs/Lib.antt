pub mod Streams
pub mod Lines
pub mod Outcome
pub mod Following
pub mod Gathered
pub mod Gathering
pub mod Running
pub mod Earliest
