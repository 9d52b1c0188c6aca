-- Rows is the rows of accepted frames that end at an index; Following the state that follows one frame; Equal that it answers as the plain machine does.
pub mod Rows
pub mod Following
pub mod Equal
