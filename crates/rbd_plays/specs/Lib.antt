pub mod Twins
pub mod OneRun
pub mod OneChanger
pub mod AddUp
