pub mod Depth
pub mod Emulation
pub mod Faults
pub mod Selection
pub mod Named
pub mod Opens
pub mod OpenFaults
pub mod Steps
