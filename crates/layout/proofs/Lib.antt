pub mod Examples
-- laws
pub mod Entries
pub mod Steps
pub mod Forward
pub mod Back
pub mod Finishing
pub mod ReadingLaws
-- where bytes break off
pub mod Digits
pub mod Due
pub mod NumberLaws
pub mod BreakLaws
-- what a record unfolds to
pub mod UnfoldLaws
pub mod WrittenLaws
-- what its reader yields
pub mod Places
pub mod YieldLaws
