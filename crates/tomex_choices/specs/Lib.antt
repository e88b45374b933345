-- Definitions that contracts cite: what a study's lists have, what they lack, and what that would bring.
pub mod NewMachines
pub mod Savings
pub mod Additions
pub mod Enough
pub mod Reports
pub mod Points
pub mod Ends
pub mod Laws
-- the code's own words
pub mod Asking
pub mod Passing
pub mod Weighed
