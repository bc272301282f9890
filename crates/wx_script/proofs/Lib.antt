pub mod ReadingLaws
pub mod ScanLemmas
pub mod ScriptLaws
