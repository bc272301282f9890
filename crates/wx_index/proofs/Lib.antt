mod AskedLemmas
mod ChainLemmas
pub mod KnownLemmas
mod OwnerLemmas
mod SearchLemmas
