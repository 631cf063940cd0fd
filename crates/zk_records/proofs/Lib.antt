pub mod Numbers
pub mod Owned
pub mod Covered
pub mod Sized
