pub mod Entries
pub mod EntriesLaws
pub mod Blocks
pub mod Steps
pub mod Drafts
pub mod Room
