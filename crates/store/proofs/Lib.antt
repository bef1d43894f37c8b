pub mod Flats
pub mod Tells
