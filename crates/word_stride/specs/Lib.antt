-- What a run does to the words, and its laws; few symbols received one by one.
pub mod FewSymbols
pub mod WordRuns
