pub mod Phase
pub mod Letter
pub mod PauliString
pub mod Papers
pub mod Operators
