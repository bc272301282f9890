pub mod Ignoring
pub mod Laws
pub mod Lines
pub mod Lists
pub mod Matching
pub mod Rows
