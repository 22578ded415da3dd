pub mod Branches
pub mod Attacks
pub mod Taken
pub mod Searching
pub mod Chosen
pub mod Passing
pub mod Stacked
