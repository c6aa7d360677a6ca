pub mod Rows
pub mod InverseRows
pub mod Writing
pub mod GateRows
pub mod Playing
pub mod Made
pub mod Numbering
