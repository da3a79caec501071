pub mod Card
pub mod Seen
pub mod Rows
pub mod Packs
pub mod Flags
