pub mod Clashing
pub mod Counts
pub mod Sharing
pub mod Progressed
pub mod Moved
pub mod AfterNews
