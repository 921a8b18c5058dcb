pub mod Painted
pub mod Images
pub mod Steps
pub mod Parts
pub mod SiteSteps
pub mod Shown
