pub mod Enabling
