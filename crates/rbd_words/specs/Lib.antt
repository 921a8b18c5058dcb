pub mod Command
pub mod Load
pub mod Words
pub mod Spelling
