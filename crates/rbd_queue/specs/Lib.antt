pub mod Kept
pub mod Line
pub mod Steady
pub mod Turns
