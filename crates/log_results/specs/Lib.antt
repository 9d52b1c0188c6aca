-- LogStructs is what the contracts say; LogFields the structs against their answers' results.
pub mod LogStructs
pub mod LogFields
