pub mod Source
pub mod Sink
pub mod Calls
pub mod Stream
pub mod Texts
