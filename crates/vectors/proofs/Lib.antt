-- Lemmas of `vectors`.
pub mod Counting
pub mod Fields
pub mod Numerals
pub mod Rooms
