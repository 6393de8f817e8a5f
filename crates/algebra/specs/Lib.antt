pub mod Integers
pub mod Lists
pub mod Rings
pub mod Signs
pub mod Sizes
pub mod Sums
