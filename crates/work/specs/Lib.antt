pub mod Faults
pub mod Kinds
pub mod Values
pub mod ValuesLaws
pub mod KindLaws
pub mod TableLaws
