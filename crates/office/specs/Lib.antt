pub mod Calls
pub mod Answers
pub mod Decide
pub mod Steps
pub mod Promises
