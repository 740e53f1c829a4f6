mod Rows
mod Digested
mod Searched
mod Repaired
mod Slices
