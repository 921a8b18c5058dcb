pub mod Ancestors
pub mod Truth
pub mod Locks
pub mod Turns
pub mod Beside
pub mod Owed
pub mod Exact
