pub mod LiveActs
pub mod LiveLaws
