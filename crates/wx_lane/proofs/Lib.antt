mod HearLemmas
pub mod KeptLemmas
mod MeetLemmas
pub mod MessageLemmas
mod NextLemmas
mod PublicLemmas
mod WaitLemmas
mod WalkLemmas
