pub mod AtFrontLaws
pub mod CountLaws
pub mod EntryLaws
pub mod LineLaws
