-- The laws of the crates below, in one record.
pub use Rattle.twin.specs.Facts.{Facts}
