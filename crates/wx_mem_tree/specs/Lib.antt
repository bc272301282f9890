pub mod Children
pub mod Entries
pub mod Indexed
