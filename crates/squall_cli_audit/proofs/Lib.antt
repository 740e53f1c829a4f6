pub mod Texts
pub mod Lists
pub mod Places
pub mod Verdicts
pub mod Judgments
