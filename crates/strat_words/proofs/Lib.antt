pub mod Numbers
pub mod Loops
pub mod WordLaws
pub mod Laws
pub mod Taken
pub mod Cuts
