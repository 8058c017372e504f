pub mod Faults
pub mod Known
pub mod Sets
pub mod Texts
pub mod Parts
pub mod Columns
pub mod Nodes
pub mod Graphs
