pub mod Format
pub mod Kinds
pub mod Vectors
