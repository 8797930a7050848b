pub mod Loops
pub mod Firsts
pub mod Copies
