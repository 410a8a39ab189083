pub mod Tests
pub mod Codes
pub mod Lists
pub mod Sets
pub mod Clocks
pub mod Rank
