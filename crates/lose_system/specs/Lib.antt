pub mod Losing
pub mod Written
pub mod Place
pub mod Table
pub mod Rising
pub mod Kept
