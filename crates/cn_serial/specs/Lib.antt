pub mod Serial
pub mod Rounds
pub mod Ran
