pub mod Faults
pub mod Lists
pub mod Readers
pub mod Reading
pub mod RoundTrip
pub mod Words
