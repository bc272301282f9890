mod BeginLemmas
mod OfferLaws
mod RunLemmas
mod SettleLemmas
mod TurnLemmas
mod WatchLemmas
mod WishLaws
pub mod MainLaws
