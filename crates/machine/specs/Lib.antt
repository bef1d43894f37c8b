-- The definitions of the page machine, file by file.
pub mod Refusals
pub mod Axes
pub mod Stack
pub mod State
pub mod Steps
pub mod Laws
