pub mod Queries
pub mod Tags
pub mod Files
pub mod Worked
