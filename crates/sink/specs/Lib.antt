pub mod Refusals
pub mod Meaning
pub mod Memory
pub mod Calls
