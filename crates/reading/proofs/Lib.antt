pub mod Rings
pub mod Readers
pub mod Marking
