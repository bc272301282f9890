pub mod KnownLaws
pub mod Parts
