pub mod Critical
pub mod Runtime
