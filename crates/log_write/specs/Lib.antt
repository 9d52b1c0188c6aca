-- A record put field by field.
pub mod Parts
