pub mod Assay
pub mod Soil
pub mod Largest
pub mod Votes
pub mod Counts
