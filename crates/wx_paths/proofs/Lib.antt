pub mod ComponentLemmas
mod JoinLemmas
mod LawLemmas
mod SharedLemmas
mod SpellLemmas
