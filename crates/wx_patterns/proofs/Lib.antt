pub mod FrontLemmas
pub mod LastLemmas
pub mod LawLemmas
pub mod RowLemmas
pub mod WordLemmas
