pub mod Summing
pub mod ExampleLemmas
mod Units
