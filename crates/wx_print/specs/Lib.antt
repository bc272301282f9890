pub mod Printed
pub mod Window
