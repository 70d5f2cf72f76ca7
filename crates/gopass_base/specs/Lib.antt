pub mod Text
pub mod Faults
pub mod Calls
pub mod Lines
pub mod Order
pub mod Parts
pub mod Paths
