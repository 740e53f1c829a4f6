-- Legs of a table are legs of its router.
use Rattle.std.specs.Prelude.{◌≡◌, ℕ, ◌<◌, List}
use Rattle.std.proofs.Common.{ap, ◌∙◌, arith}
use Rattle.squall_key.specs.Keys.{top}
use Rattle.squall_plan.specs.declared.range.PlanRange.{PlanRange}
use Rattle.squall_plan.specs.Ranges.{owner_of}
use Rattle.squall_table.specs.Tables.{AreLegs}
use Rattle.squall_router.specs.Routers.{RouterValue, route_of_router, IsTableOf}

-- a table sends each key where its router does
pub table_routes : (s x : RouterValue) (table : List PlanRange) → x ≡ s → IsTableOf x table → (k : ℕ) → k < top → owner_of table k ≡ route_of_router s k
table_routes s x table view is k below = is.routes k (omega arith) below ∙ ap (λ (r : RouterValue). route_of_router r k) view

-- legs of a route are legs of each that is the same there
pub legs_of_same : (f g : ℕ → ℕ) (lo hi : ℕ) (ls : List PlanRange) → ((k : ℕ) → k < hi → f k ≡ g k) → AreLegs f lo hi ls → AreLegs g lo hi ls
legs_of_same f g lo hi ls same are = record { tiles = are.tiles; differ = are.differ; routes = λ k from below. are.routes k from below ∙ same k below }
