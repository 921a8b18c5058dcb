pub mod GrownLemmas
pub mod ListedLemmas
pub mod ListsLemmas
pub mod PagingLemmas
pub mod PlacesLemmas
pub mod SheavesLemmas
pub mod SheetLemmas
pub mod WritingLemmas
