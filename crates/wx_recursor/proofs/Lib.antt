pub mod Coverage
pub mod GivenRoots
pub mod OwnerLemmas
pub mod SoundLemmas
pub mod SoundRebuild
pub mod SoundSteps
