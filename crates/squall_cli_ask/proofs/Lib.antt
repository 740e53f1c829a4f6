pub mod Telling
mod ShownBytes
mod Gathering
pub mod Matched
pub mod Inquired
pub mod ByLine
pub mod Streamed
pub mod Watched
pub mod Followed
pub mod Answering
pub mod Statuses
