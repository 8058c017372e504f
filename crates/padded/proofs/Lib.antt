pub mod Elements
pub mod Rows
pub mod Padding
pub mod Pairs
pub mod Moves
pub mod Zeros
pub mod Steps
pub mod SortedPlaces
