-- what the clauses here cite of the crates below
pub use Rattle.squall_key.specs.Keys
pub mod KeyMap
