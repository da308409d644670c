pub mod Parts
pub mod Calling
pub mod Requests
pub mod Advancing
pub mod Onward
pub mod Session
