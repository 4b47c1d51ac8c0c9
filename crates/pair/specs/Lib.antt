pub mod Pair
pub mod PairLaws
pub mod PairMoments
