-- Structs is what the contracts say; Fields and Indexes the structs against their answers' results.
pub mod Structs
pub mod Fields
pub mod Indexes
