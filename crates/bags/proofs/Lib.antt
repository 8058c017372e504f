pub mod Bags
pub mod Folds
pub mod Images
pub mod Members
pub mod Permutations
pub mod Rows
pub mod Sorting
