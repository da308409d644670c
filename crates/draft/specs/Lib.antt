-- what the program prints
pub mod Lines
pub mod Output
pub mod Reading
pub mod Filling
pub mod Running
-- the room of a line
pub mod Putting
