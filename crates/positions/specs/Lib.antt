pub mod Tabs
pub mod Sets
pub mod Verdicts
pub mod Leading
