pub mod Listings
pub mod Changes
pub mod Covering
pub mod Fitting
pub mod Polled
