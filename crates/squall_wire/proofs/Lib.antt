mod Front
pub mod Loop
pub mod Spans
pub mod Heads
pub mod Plans
pub mod Written
pub mod Placed
pub mod Bodies
pub mod Decoded
