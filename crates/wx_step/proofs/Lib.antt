mod Judged
mod Sought
mod Acted
mod Calmed
pub mod Abouts
pub mod Caused
mod Raised
pub mod Rests
