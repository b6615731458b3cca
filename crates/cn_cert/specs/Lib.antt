pub mod Refusal
pub mod Certificate
pub mod Steps
