pub mod Grown
pub mod MemoryPuts
