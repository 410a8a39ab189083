pub mod Readings
pub mod Answers
