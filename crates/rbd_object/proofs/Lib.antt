pub mod EachLemmas
pub mod HeadLemmas
pub mod KeptLemmas
pub mod MappedLemmas
pub mod PagedLemmas
pub mod SoundLemmas
pub mod StepLemmas
pub mod VersionLemmas
