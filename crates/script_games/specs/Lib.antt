pub mod Games
pub mod Carried
pub mod Told
pub mod Refusal
pub mod Acceptance
pub mod Headline
pub mod Given
