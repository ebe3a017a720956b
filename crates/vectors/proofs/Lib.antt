pub mod Bits
pub mod Joining
pub mod Members
pub mod Walking
pub mod Growing
