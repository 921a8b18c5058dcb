pub mod Ascending
pub mod Listings
pub mod Entries
