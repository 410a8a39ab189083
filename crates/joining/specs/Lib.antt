pub mod Joins
pub mod Promises
pub mod Orders
pub mod Laws
