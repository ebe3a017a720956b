pub mod Verdicts
pub mod Trials
