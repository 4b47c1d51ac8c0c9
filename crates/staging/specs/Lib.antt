pub mod Below
pub mod Rewind
pub mod Spread
pub mod RewindLaws
