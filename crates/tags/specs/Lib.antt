pub mod Bytes
pub mod Marks
pub mod Steps
pub mod Reads
