pub mod Drawn
pub mod Lives
pub mod Placed
pub mod PlacedLaws
