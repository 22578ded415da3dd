pub mod Kind
pub mod Words
pub mod Table
pub mod Vocabulary
