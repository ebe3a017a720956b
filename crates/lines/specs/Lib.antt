-- Lines: what a line says, and its bytes.
pub mod Lines
