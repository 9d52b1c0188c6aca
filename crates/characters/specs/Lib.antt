-- ByteSymbols is what the contracts say; Decoding its laws.
pub mod ByteSymbols
pub mod Decoding
