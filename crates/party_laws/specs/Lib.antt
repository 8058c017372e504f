pub mod InMachine
pub mod StageWords
pub mod Grows
