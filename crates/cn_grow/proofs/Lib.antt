pub mod Growth
pub mod Marked
pub mod There
