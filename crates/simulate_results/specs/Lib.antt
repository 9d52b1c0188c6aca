-- SimulateStructs is what the contracts say; SimulateFields the struct against its answer.
pub mod SimulateStructs
pub mod SimulateFields
