pub mod Runs
pub mod ByNumber
mod Guards
