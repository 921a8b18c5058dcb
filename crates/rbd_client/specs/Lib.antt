pub mod Client
pub mod Actor
pub mod Feeding
pub mod Sound
pub mod Laws
pub mod Seen
