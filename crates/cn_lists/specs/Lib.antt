pub mod Classical
pub mod Segment
pub mod Steps
