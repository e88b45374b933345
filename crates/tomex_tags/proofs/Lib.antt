pub mod Slots
pub mod Hearing
pub mod Entering
pub mod Listening
pub mod Serving
pub mod Starting
pub mod Reaching
