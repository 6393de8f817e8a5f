pub mod Answers
pub mod Calls
pub mod Kept
pub mod Readings
pub mod Texts
