pub mod Drafting
pub mod Asking
pub mod Standing
