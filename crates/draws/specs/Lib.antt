pub mod Faults
pub mod Sources
pub mod Draws
pub mod Runners
