-- the promises
pub mod Core
pub mod Answers
-- what is computed
pub mod Iterator
pub mod Engine
pub mod Lanes
pub mod Splitting
-- endings by their centres
pub mod Centres
pub mod Reflection
pub mod Linked
-- the invariants
pub mod Stores
pub mod Scanning
pub mod Unlinking
pub mod Iterating
pub mod Stepping
-- how code meets model
pub mod IteratorCode
pub mod EngineCode
pub mod SplitCode
