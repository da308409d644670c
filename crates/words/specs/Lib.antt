-- what the terms mean
pub mod Definitions
pub mod Computed
pub mod Prefixes
-- decisions, and what they rest on
pub mod Search
pub mod Mirror
pub mod Periods
pub mod Ranges
