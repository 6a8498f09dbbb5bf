pub mod CoveredBits
pub mod ViewBits
pub mod HalfSteps
