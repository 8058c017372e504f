pub mod Words
pub mod Token
pub mod Scan
pub mod Lines
pub mod Lexemes
pub mod Longest
pub mod Print
pub mod Real
