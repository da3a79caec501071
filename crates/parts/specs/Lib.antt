pub mod Does
pub mod Shared
pub mod Tasks
