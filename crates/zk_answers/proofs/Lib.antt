pub mod Heads
pub mod Connected
pub mod Dones
pub mod Results
pub mod Rests
pub mod Events
pub mod Bodies
pub mod Replies
pub mod Outcomes
pub mod Formed
pub mod Forms
pub mod Refusals
mod Scanned
pub mod Shorts
pub mod Opened
pub mod Cased
pub mod Covered
pub mod Lying
pub mod Knowing
mod Ends
pub mod Deciding
