pub mod Disabling
pub mod Finishing
