mod Given
mod Heard
mod Listed
mod Parts
mod Runs
mod Sided
