pub mod Sizes
pub mod Earliest
pub mod Stops
pub mod Numbers
pub mod Runs
pub mod Utf8
pub mod Marks
