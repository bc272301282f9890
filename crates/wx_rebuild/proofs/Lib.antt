mod Prepared
pub mod Replayed
pub mod AskedLemmas
pub mod Caused
