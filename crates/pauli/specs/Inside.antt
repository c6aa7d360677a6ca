pub mod Turns
pub mod Products
pub mod Marks
pub mod Reading
pub mod TextWriting
