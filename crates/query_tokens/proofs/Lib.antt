pub mod Tags
pub mod Digits
pub mod ScanSteps
pub mod LineCuts
pub mod RealTokens
pub mod LongestFront
pub mod ReadBack
pub mod PrintedLine
