pub mod Asked
pub mod Marked
pub mod Rounds
pub mod Threaded
pub mod ThreadedLaws
pub mod Told
pub mod Turns
