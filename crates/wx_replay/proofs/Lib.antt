pub mod ReplayLaws
mod LinkLaws
mod StillLaws
mod WriteLemmas
