-- Feeding is what the contracts say, Tapes the frame of letter X in one word; Refinement demand 3 of the program's reader; FeedLists laws of lists of Feeds; ReaderRows worked rows.
pub mod Feeding
pub mod Tapes
pub mod Refinement
pub mod ReaderRows
