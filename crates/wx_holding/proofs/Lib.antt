pub mod Results
pub mod Watching
pub mod LettingGo
pub mod Looks
pub mod StillLooks
mod Added
mod Released
mod Acts
pub mod StandingBy
pub mod CalmActs
