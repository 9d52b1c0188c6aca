-- Standing is how far a block has come, WordBlocks the same in the words of its reader, BlockChecks what is checked before.
pub mod BlockChecks
pub mod Standing
pub mod WordBlocks
