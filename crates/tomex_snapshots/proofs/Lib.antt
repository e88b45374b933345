pub mod Lists
pub mod Noted
pub mod Shown
