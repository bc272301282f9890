pub mod Drafts
pub mod Entries
