-- Tape is the frame of letter X by its runs; Readings what Read says of one; Offences the same by the lowest index that offends; InWord the same of a frame in a word.
pub mod Tape
pub mod Readings
pub mod Offences
pub mod InWord
