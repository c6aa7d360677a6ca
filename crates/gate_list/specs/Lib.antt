pub mod Lists
pub mod ListQuestions
pub mod Runs
pub mod Reports
pub mod OrderedLists
pub mod Promises
pub mod Inside
