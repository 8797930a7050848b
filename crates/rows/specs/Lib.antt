pub mod Pieces
pub mod Stretches
pub mod Places
pub mod Made
pub mod Lists
pub mod Same
