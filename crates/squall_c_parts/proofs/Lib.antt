mod Keys
mod Takes
