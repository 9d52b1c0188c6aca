-- Figures is what the contracts say; Demands what holds of it; Ranges the code's ranges of control bits.
pub mod Figures
pub mod Ranges
pub mod Demands
