mod Boxed
mod Encoded
mod Cutting
pub mod Handles
mod Keeping
mod Opening
mod Parts
mod Payloads
mod Pointers
mod Reading
mod Texts
mod Values
