pub mod OneSpelling
pub mod PrintLemmas
pub mod WindowLemmas
