pub mod Columns
pub mod Convert
pub mod Fits
pub mod Laws
pub mod Meaning
pub mod Operators
pub mod Plain
