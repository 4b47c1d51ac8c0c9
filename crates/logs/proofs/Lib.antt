pub mod ReaderLaws
pub mod ReadBack
pub mod WriterLaws
pub mod WrittenOnly
