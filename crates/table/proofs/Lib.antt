pub mod Places
pub mod Fills
pub mod Trying
pub mod Closing
pub mod Arise
pub mod Walks
pub mod Telling
pub mod Making
pub mod Counting
mod Turned
