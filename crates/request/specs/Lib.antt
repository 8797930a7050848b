pub mod Lines
pub mod Places
pub mod Asked
pub mod Stops
pub mod Given
pub mod Forms
