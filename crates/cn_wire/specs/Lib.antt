pub mod Numbers
pub mod Spelling
pub mod Writing
pub mod Sizes
pub mod Reading
