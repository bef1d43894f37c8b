-- The definitions of a PDF file's bytes, numbers, tokens, values and blocks, and the laws of them.
pub mod Bytes
pub mod Numbers
pub mod Tokens
pub mod Values
pub mod Written
pub mod Lookups
pub mod Blocks
pub mod Laws
pub mod Samples
