mod Acts
mod Called
mod Firsts
mod Standing
mod Systems
pub mod Listed
