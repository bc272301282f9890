pub mod SameBag
pub mod Channel
pub mod Refused
pub mod Waiting
pub mod Order
