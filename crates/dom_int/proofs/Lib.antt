pub mod Deltas
pub mod Places
pub mod Numerators
pub mod Adding
pub mod ExampleLemmas
mod Congruents
