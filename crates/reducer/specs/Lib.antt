pub mod Sessions
pub mod Pages
pub mod States
pub mod Hosts
