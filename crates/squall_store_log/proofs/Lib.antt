pub mod Payloads
pub mod Gifts
pub mod Alike
pub mod Cuts
pub mod Written
