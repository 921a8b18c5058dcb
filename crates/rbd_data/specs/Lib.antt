pub mod WritePieceLaws
pub mod Read
pub mod Seen
pub mod Write
pub mod Discard
pub mod ZeroPieceLaws
