pub mod ListLemmas
pub mod PathLemmas
pub mod PlaceLemmas
pub mod Reaching
pub mod ResultLemmas
