pub mod Commands
pub mod CommandLaws
pub mod Operations
