pub mod Causes
pub mod Clears
pub mod Worked
pub mod ClearsLaws
