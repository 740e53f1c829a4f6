mod Placed
mod Carried
mod Mapped
mod Come
mod Slots
mod Kept
mod Going
