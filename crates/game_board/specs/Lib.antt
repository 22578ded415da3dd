pub mod Entries
pub mod Board
pub mod Replies
pub mod Half
pub mod Kept
pub mod Laws
pub mod Running
