pub mod Holding
pub mod Effects
pub mod Backed
pub mod Calm
pub mod Standing
