pub mod FileEvents
pub mod Messages
pub mod Public
pub mod Lanes
pub mod Meetings
pub mod Kept
