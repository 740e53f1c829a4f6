pub mod Legs
pub mod Given
mod Shares
mod Even
mod Led
