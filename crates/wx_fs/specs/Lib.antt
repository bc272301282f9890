pub mod Kept
pub mod Told
pub mod Standing
pub mod Settling
