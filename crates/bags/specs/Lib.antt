pub mod Bag
pub mod Sorted
pub mod Laws
pub mod Words
pub mod Images
