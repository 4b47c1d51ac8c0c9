pub mod Chosen
pub mod Fields
pub mod Judgements
pub mod Kinds
pub mod Listings
pub mod ChosenLaws
