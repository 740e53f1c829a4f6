-- what the clauses here cite of the crates below
pub use Rattle.squall_key.specs.Keys
pub use Rattle.squall_span.specs.Spans
pub use Rattle.squall_join.specs.Flats
pub use Rattle.squall_plan.specs.Ranges
pub mod Issues
pub mod IssueLaws
pub mod Cells
pub mod Facts
pub mod Told
pub mod ToldLaws
pub mod Openings
pub mod OpeningsLaws
pub mod Newest
pub mod NewestLaws
pub mod Queries
pub mod QueriesLaws
