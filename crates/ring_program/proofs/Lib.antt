pub mod Feeding
pub mod Running
pub mod Whole
pub mod Table
pub mod Script
