pub mod FeedLists
pub mod Feeding
pub mod ReaderRows
pub mod Refinement
pub mod Tapes
