-- The lemmas of the page script, file by file.
pub mod Tables
pub mod Undone
pub mod Refused
pub mod Ways
