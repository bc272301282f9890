pub mod Machine
pub mod Reached
pub mod Wanted
