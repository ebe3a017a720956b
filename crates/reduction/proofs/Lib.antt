mod Along
mod Giving
mod Looping
mod Playing
mod Fitting
mod Holding
