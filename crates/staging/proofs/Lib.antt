pub mod BelowLaws
pub mod SpreadLaws
