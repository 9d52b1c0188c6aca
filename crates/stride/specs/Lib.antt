-- ReadyReaders is the readers that pass 13 and 26; Shown what the register shows of the symbols received; Strides what the contracts say, and its laws.
pub mod ReadyReaders
pub mod Shown
pub mod Strides
