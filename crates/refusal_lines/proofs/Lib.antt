pub mod LineWrites
