pub mod Watching
pub mod Posting
