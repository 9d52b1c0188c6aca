-- What the contracts say of many symbols, and its laws.
pub mod ManySymbols
