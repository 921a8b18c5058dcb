pub mod Event
pub mod Extent
pub mod OwnStep
pub mod Request
