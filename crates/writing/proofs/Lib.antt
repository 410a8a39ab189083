pub mod EarlyCodes
pub mod Sends
pub mod Writes
pub mod Forecasts
pub mod Answers
pub mod Contract
