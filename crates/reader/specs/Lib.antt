-- what the reader promises
pub mod Reader
-- the reading in numbers
pub mod Numbers
-- how the code goes its way: the loops over the bytes, the check
pub mod StepCode
pub mod ScanCode
pub mod CheckCode
-- the section at a place
pub mod SectionCode
pub mod Tracking
-- the picks in a list
pub mod Filling
pub mod FillCode
pub mod StoreCode
pub mod UnfoldCode
