pub mod Steps
pub mod Gates
pub mod Counts
pub mod Growing
pub mod Circuits
