pub mod MixedCalls
