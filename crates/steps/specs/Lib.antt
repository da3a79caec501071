pub mod Outcomes
pub mod Wakes
