pub mod Run
pub mod Piece
pub mod Place
pub mod Lexeme
pub mod Tokens
pub mod Spelling
