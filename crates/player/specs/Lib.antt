pub mod Play
pub mod Desks
pub mod Shows
pub mod Steps
