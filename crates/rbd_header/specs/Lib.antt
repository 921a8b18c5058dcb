pub mod Header
pub mod Later
pub mod Texts
pub mod Told
