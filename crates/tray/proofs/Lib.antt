-- The lemmas that the crate's proofs share.
pub mod Found
