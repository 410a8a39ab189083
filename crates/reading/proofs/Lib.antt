pub mod Readings
pub mod JointReads
pub mod Answers
pub mod Alone
pub mod OnePlot
pub mod Contract
