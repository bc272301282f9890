pub mod Parkings
pub mod Prepared
pub mod Stands
pub mod Calls
