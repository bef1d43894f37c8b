-- The definitions of the page script, file by file.
pub mod Numbers
pub mod Fields
pub mod Decoded
pub mod Encoded
pub mod Laws
pub mod Printed
