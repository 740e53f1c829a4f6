pub mod Numbers
pub mod Keys
pub mod Lemmas
pub mod Search
pub mod SearchLaws
