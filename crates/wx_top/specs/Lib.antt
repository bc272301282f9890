pub mod Floods
pub mod Requests
pub mod Serves
