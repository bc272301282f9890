pub mod Lists
pub mod Paths
pub mod Places
pub mod Roots
pub mod Trees
