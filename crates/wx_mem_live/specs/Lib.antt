pub mod Drawing
pub mod Unseen
pub mod UnseenLaws
pub mod Untold
