pub mod LiveRuns
pub mod Sides
pub mod Subsequences
