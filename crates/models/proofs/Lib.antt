-- endings by their centres
pub mod Centres
pub mod Reflection
pub mod Linked
-- the iterator's laws
pub mod Stores
pub mod Scanning
pub mod Unlinking
pub mod Iterating
-- the engine's laws
pub mod Walking
pub mod Stepping
pub mod Splitting
-- the promises are kept
pub mod Core
pub mod Answers
-- how code meets model
pub mod IteratorCode
pub mod EngineCode
pub mod SplitCode
