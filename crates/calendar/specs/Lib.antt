-- Dates, Moments and Windows are document 02's test windows; Inverse, Order and Adding their theorems; Keys that keys are ordered as moments; Rows what the theorems leave free.
pub mod Dates
pub mod Moments
pub mod Windows
pub mod Inverse
pub mod Order
pub mod Keys
pub mod Adding
pub mod Rows
