pub mod Content
pub mod Table
pub mod Records
pub mod Outcome
pub mod File
pub mod Answer
pub mod FaultText
