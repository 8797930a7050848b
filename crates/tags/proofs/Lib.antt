pub mod Parts
mod Blocks
mod Reading
