pub mod Counted
pub mod Digits
pub mod Gone
pub mod Last
pub mod Spoken
pub mod Unreplied
