mod Sums
mod Tryings
mod Pieces
mod Carrying
mod Rounding
mod Going
mod Rows
mod Wrong
