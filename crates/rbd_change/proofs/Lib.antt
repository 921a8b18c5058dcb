pub mod InTurn
pub mod Noted
