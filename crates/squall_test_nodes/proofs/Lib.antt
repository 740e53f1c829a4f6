mod Pieces
mod Turns
mod Swapped
