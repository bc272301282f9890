pub mod Options
pub mod OptionsLaws
pub mod Argvs
pub mod Shells
pub mod Commands
pub mod Execables
pub mod Spawnables
pub mod Shown
