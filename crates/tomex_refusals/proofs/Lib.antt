mod Found
mod Standing
mod Longest
