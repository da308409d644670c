-- the record, for a reader
pub mod Record
pub mod Layout
pub mod Unfolding
pub mod Reading
pub mod Yield
