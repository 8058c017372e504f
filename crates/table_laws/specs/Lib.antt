pub mod Fields
pub mod Files
pub mod Faults
pub mod Answers
