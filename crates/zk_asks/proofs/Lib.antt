pub mod Made
pub mod First
pub mod Parts
pub mod Parted
pub mod Lying
mod Copied
pub mod Counted
pub mod Asks
pub mod Later
pub mod Ended
pub mod Placed
pub mod Knowing
pub mod Judged
pub mod Openings
pub mod Opened
pub mod Flags
mod Ends
pub mod Choices
pub mod Deciding
