pub mod Boundary
pub mod Selected
pub mod Planned
