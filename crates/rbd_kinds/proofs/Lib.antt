mod EachKind
pub mod Images
pub mod Instances
pub mod Plain
pub mod Results
