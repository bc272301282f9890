pub mod StandsLemmas
pub mod DoneLemmas
pub mod Sets
pub mod StopLaws
pub mod GivenUp
