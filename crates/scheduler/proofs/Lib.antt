pub mod Idle
pub mod Known
pub mod Take
pub mod Store
pub mod Load
