pub mod Cause
pub mod DiskFolder
pub mod Folder
pub mod MemoryFolder
pub mod MemorySink
pub mod StdSink
