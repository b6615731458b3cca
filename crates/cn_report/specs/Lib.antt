pub mod Standing
pub mod Choice
pub mod Answers
