-- The lemmas of the page machine, file by file.
pub mod Allowed
pub mod Opens
pub mod Matrices
