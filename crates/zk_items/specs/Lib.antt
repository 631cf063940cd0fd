pub mod Form
pub mod Laws
pub mod Many
pub mod Leaf
pub mod Odd
pub mod Codes
pub mod Encoded
pub mod Reasons
