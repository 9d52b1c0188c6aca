-- Forecasting is what the contract says; Exact, Rounding and Demands are what follows from it; Rows are worked examples.
pub mod Forecasting
pub mod Exact
pub mod Rounding
pub mod Demands
pub mod Rows
