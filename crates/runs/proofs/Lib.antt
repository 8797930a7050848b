pub mod Mapped
pub mod Held
pub mod Faithful
