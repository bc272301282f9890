pub mod MetAgain
