pub mod formers
pub mod Shown
pub mod Fitting
pub mod Versions
pub mod Compared
