pub mod Numbers
pub mod Members
