mod Placed
mod Listed
mod Found
mod Once
mod Answered
pub mod Put
mod Calm
