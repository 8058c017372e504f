pub mod Running
pub mod RunOf
pub mod FewMoves
pub mod Held
