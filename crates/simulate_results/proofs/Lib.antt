pub mod SimulateFields
