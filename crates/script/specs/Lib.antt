-- The definitions that the contracts of this crate cite.
pub mod Digits
pub mod Lines
pub mod Tokens
pub mod Readings
pub mod Answers
pub mod Laws
pub mod Texts
