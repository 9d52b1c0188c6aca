-- Offences and Exits: the search for the lowest index that offends, and where Write and Read return.
pub mod Offences
pub mod Exits
