-- ReaderCalls has the definitions; MixedCalls demand 3 of any list of calls.
pub mod ReaderCalls
