-- Laws of the places that Scan looks at.
pub mod Places
pub mod Spoiled
