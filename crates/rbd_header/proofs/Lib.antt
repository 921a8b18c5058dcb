pub mod Changed
pub mod Later
