pub mod Backed
pub mod Edits
pub mod Filtering
pub mod Unseen
