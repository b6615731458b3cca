pub mod Classical
pub mod Finding
pub mod Folding
pub mod Halving
pub mod Loops
pub mod Order
pub mod Segments
pub mod Sorts
