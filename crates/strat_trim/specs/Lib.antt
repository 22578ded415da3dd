pub mod Renamed
pub mod Trimmed
pub mod Marked
pub mod Parts
pub mod Trim
pub mod Needing
