-- A valid state is read back out of its packing, and a table is sound exactly when it is such a packing.
pub mod Regions
pub mod Blocks
pub mod Reflect
pub mod Chains
pub mod Numbered
pub mod Reading
pub mod ViewCore
pub mod ViewProcess
pub mod ViewChannel
pub mod Means
pub mod Unused
pub mod Kept
