pub mod Moves
pub mod Near
pub mod Comes
pub mod Waking
pub mod Wake
