pub mod Flags
pub mod Leasts
pub mod Counts
pub mod Walking
pub mod Firsts
