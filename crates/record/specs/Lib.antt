-- laws of the record's bytes
pub mod Fields
pub mod RecordCode
