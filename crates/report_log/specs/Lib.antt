-- Log is document 02's report log; Logs and Writing its theorems, over lists of reports and over calls; Rows what they leave free. The proofs stand in the others.
pub mod Log
pub mod Numbers
pub mod Fields
pub mod Records
pub mod Logs
pub mod Writing
pub mod Checks
pub mod Rows
