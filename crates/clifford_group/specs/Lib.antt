pub mod Tableau
pub mod Conjugation
