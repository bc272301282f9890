mod ActedLaws
mod BackedLaws
mod GivenLaws
mod EditLaws
