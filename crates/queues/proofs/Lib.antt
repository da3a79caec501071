pub mod Within
pub mod Fits
pub mod Laws
pub mod Joined
