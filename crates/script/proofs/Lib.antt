-- Lemmas that the proofs of this crate share.
pub mod Written
pub mod Fronts
pub mod Stepwise
pub mod Lawful
pub mod Placed
pub mod Mapped
pub mod Taken
