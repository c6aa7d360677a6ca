pub mod RunSends
pub mod RightLists
pub mod Walks
pub mod ListAnswers
