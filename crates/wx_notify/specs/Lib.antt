pub mod Processes
pub mod Notifies
