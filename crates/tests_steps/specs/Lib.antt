pub mod TestTask
