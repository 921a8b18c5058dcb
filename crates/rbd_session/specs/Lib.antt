pub mod Close
pub mod Meaning
