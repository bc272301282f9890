pub mod Sent
pub mod Run
pub mod Completes
pub mod Offers
