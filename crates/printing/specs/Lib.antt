-- What the contracts say of reads and writes.
pub mod Printing
