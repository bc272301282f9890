mod Sights
mod Tellings
mod Coverings
mod Looks
mod Shown
mod Fits
