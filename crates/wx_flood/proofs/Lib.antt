mod DrawLaws
pub mod FloodLaws
