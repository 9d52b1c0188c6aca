-- Numbers is what the contracts say; DigitBytes its laws.
pub mod Numbers
pub mod DigitBytes
