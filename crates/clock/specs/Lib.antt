-- Laws of kinds of days and of signed differences that the proofs use.
pub mod Kinds
pub mod Signed
