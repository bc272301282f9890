pub mod Looked
pub mod Told
pub mod Backings
pub mod Checks
