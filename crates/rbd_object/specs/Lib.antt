pub mod Changes
pub mod Kept
pub mod Mapped
pub mod Paged
pub mod Shared
pub mod Versioned
