mod Beginning
mod Paging
mod Scripting
mod Bounds
mod Running
mod Examples
