pub mod Ordered
pub mod Windows
