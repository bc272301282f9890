pub mod BagLaws
pub mod WaitingLemmas
