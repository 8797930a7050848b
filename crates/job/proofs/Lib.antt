pub mod Asked
pub mod Ruled
pub mod Ranges
pub mod Calls
