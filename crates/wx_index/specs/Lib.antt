pub mod Chained
pub mod Keys
pub mod Owned
