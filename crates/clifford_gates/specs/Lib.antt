pub mod Gates
pub mod GateTableaux
pub mod Unitaries
pub mod GateNumbers
pub mod Updates
