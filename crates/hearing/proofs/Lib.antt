pub mod Forwards
pub mod Receives
pub mod Forecasts
pub mod Contract
