pub mod Amounts
pub mod Folds
