pub mod Fields
pub mod Rows
pub mod Files
pub mod Faults
pub mod Written
pub mod Answers
