pub mod Machines
mod Zips
