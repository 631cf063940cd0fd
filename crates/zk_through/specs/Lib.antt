-- Definitions that the contracts cite.
pub mod Came
pub mod LeftOut
pub mod Unseen
pub mod Turns
pub mod Runs
pub mod Fates
pub mod Alone
pub mod Resumed
pub mod Offered
