pub mod Accepted
pub mod Counted
pub mod Fits
pub mod Twice
