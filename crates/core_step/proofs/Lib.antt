pub mod Stage
pub mod Tasks
