pub mod Parts
pub mod Columns
pub mod Nodes
pub mod Graphs
