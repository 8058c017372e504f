pub mod Environment
pub mod Growth
pub mod Held
pub mod HeldLaws
pub mod Clear
pub mod Counted
pub mod CountedLaws
pub mod Tally
