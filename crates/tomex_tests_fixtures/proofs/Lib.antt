-- Steps that the walks of `allocate` and `deallocate` share.
pub mod Steps
pub mod Lending
pub mod Asking
