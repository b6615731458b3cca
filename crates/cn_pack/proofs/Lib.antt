pub mod Same
pub mod Room
pub mod Fullest
