pub mod PlayQuestions
pub mod Promises
