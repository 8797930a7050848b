pub mod Plan
pub mod Outcomes
pub mod Solving
