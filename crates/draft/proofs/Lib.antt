-- how the lines are built
pub mod Putting
-- what the program reads
pub mod Reading
-- what the program prints
pub mod Filling
-- and takes
pub mod Taking
pub mod Running
