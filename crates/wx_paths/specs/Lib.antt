pub mod Paths
pub mod FrontLaws
pub mod Laws
