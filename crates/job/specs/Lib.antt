pub mod Pieces
pub mod State
