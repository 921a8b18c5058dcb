pub mod ContentsLemmas
pub mod PartsLemmas
pub mod StretchLemmas
