pub mod Number
pub mod Printed
pub mod Atoms
