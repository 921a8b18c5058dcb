pub mod Directory
pub mod Children
pub mod Texts
