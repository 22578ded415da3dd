pub mod Unspent
pub mod OnePlayer
pub mod LastVariable
pub mod LastPicked
pub mod Spending
