pub mod Handed
pub mod Told
