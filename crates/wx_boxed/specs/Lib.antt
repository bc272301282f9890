pub mod Boxed
pub mod BoxedLaws
