pub mod Rebuilding
pub mod Exits
pub mod Migrating
pub mod Names
pub mod Building
pub mod Accepting
pub mod Stepping
pub mod Commands
