mod Epochs
mod Keeping
mod Readable
pub mod RootNames
mod Telling
