pub mod Batches
pub mod Filling
pub mod NewState
pub mod Pairs
pub mod Turns
