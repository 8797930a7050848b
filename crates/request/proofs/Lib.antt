mod Finding
mod Placing
mod Written
pub mod Stopping
