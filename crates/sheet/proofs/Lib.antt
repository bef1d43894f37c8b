-- The proofs of the laws and of the worked sheets.
pub mod DueLaws
pub mod Limits
pub mod Places
pub mod Conditions
pub mod Worked
pub mod Damaged
