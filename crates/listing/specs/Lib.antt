-- Printed is what document 01 says; Promises what the contracts say; Parts and InParts that these are the same; Rows worked listings.
pub mod Printed
pub mod Promises
pub mod Parts
pub mod InParts
pub mod Rows
