pub mod Amounts
pub mod Lines
