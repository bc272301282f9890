pub mod HandLemmas
pub mod JobLemmas
pub mod ParentLemmas
pub mod PerformLemmas
pub mod PlanLemmas
pub mod ShownLemmas
pub mod StopLemmas
