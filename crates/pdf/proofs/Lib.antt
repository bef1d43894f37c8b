-- The lemmas of runs, numbers, tokens, values and blocks.
pub mod Runs
pub mod Numbers
pub mod Tokens
pub mod Lexing
pub mod Taking
pub mod Steps
pub mod Follows
pub mod Values
pub mod StrictValues
pub mod Blocks
pub mod Samples
