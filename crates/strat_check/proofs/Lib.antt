pub mod Kept
pub mod Turning
pub mod Walking
pub mod Follows
pub mod Proving
pub mod ExampleLemmas
