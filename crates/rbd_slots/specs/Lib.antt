pub mod Advance
pub mod Lines
pub mod Session
pub mod OnTrack
pub mod Track
pub mod Waits
