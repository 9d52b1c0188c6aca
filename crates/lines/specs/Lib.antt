-- Text is what the contracts say; Filling its laws; Rows worked lines.
pub mod Text
pub mod Filling
pub mod Rows
