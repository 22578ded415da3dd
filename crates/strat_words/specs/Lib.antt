pub mod Spot
pub mod View
pub mod Number
pub mod Many
pub mod Taking
pub mod Spelled
pub mod Cut
