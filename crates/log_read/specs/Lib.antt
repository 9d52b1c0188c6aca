-- Gathering is a number of its bytes; Parsing the report of a record, and each way out of reading one.
pub mod Gathering
pub mod Parsing
