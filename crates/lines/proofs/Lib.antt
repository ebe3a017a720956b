-- For other crates: Pages, lines written one after another.
pub mod Pages
mod Digits
mod Spaced
mod Parts
mod Examples
