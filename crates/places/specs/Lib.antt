pub mod Place
pub mod Cost
pub mod Bounds
pub mod Places
pub mod PlanText
pub mod Excess
pub mod Laws
