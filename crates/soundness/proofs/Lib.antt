pub mod Numbers
mod Sizes
mod Unmet
mod Walks
mod Outcomes
mod Left
