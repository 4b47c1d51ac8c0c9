pub mod ListingLaws
pub mod NameLaws
