pub mod LineTexts
pub mod Boards
pub mod BoardLists
pub mod BadLines
