-- what text is
pub mod Definitions
pub mod Writes
-- laws
pub mod Decimal
pub mod WritingCode
