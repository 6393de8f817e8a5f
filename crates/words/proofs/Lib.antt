pub mod Chunks
pub mod Texts
pub mod Entries
pub mod Files
pub mod Feeding
pub mod FedPasts
