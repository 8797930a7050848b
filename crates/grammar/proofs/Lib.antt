pub mod Runs
pub mod Rests
pub mod Firsts
pub mod Places
pub mod Apart
pub mod Pins
pub mod Exactly
