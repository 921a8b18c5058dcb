pub mod States
pub mod Covers
