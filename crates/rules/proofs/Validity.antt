-- Every rule leaves a valid state valid, and set-up makes one.
pub mod Reflect
pub mod Changes
pub mod Channels
pub mod Places
pub mod Rules
pub mod Requests
pub mod Steps
pub mod Choice
pub mod Scheduler
pub mod SetUp
pub mod StaysValid
