pub mod Draws
pub mod Floods
pub mod Summaries
