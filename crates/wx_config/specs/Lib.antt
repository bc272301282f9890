pub mod ChangeWords
pub mod Changes
pub mod Defaults
pub mod Filters
pub mod Revisions
