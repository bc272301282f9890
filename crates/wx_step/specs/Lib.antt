pub mod Asking
pub mod Causes
pub mod Current
pub mod Rests
pub mod Stepped
pub mod Calmly
