pub mod Numbers
pub mod Oldest
pub mod Receivers
pub mod Removal
