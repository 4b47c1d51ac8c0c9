pub mod ValuePairs
