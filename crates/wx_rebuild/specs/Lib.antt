pub mod Replays
pub mod Asked
pub mod Shown
