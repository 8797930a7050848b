pub mod Relations
pub mod Making
pub mod Laws
