pub mod Moving
pub mod Stepping
