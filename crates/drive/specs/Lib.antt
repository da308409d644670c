-- for a reader
pub mod Script
pub mod Drives
pub mod Session
-- for the calls, one at a time
pub mod Parts
pub mod Numbers
pub mod Lending
pub mod State
pub mod Requests
pub mod Calling
pub mod Advancing
