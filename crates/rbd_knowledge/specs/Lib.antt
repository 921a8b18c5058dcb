pub mod Calm
pub mod Knowing
pub mod Tied
pub mod ClientsKnowing
pub mod Truth
