pub mod Replays
pub mod RunLaws
pub mod Runs
pub mod Still
pub mod WriteLaws
pub mod Writes
