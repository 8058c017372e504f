pub mod TableShapes
pub mod TableWords
pub mod Sorted
pub mod SortedLaws
pub mod ClearTask
pub mod ClearTaskLaws
pub mod Laws
