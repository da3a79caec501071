pub mod Running
pub mod ChannelEnds
pub mod Guards
pub mod Written
pub mod Meets
