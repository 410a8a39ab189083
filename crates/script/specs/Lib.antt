pub mod Fields
pub mod Lines
pub mod Steps
pub mod Replies
pub mod Puts
pub mod Pendings
