pub mod Items
pub mod Transfers
pub mod Turned
