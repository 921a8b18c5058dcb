pub mod Command
pub mod CommandCopy
pub mod Quiescing
pub mod Refusal
