pub mod Calls
pub mod Serves
pub mod Stands
