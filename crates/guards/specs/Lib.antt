pub mod Change
pub mod Read
