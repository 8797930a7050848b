pub mod Closure
pub mod Arising
pub mod Filling
pub mod Tables
pub mod Making
pub mod Laws
