pub mod Circumspheres
pub mod DepthFits
pub mod Depths
pub mod Offsets
pub mod Sides
pub mod Symbols
