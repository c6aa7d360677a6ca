pub mod WayBack
pub mod Witnesses
pub mod NamedGates
pub mod Readings
pub mod Weights
pub mod Validity
