pub mod Real
pub mod RealLaws
