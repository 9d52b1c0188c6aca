-- Ways is the checks of adding and each way out; Asking the loop over the keys.
pub mod Ways
pub mod Asking
