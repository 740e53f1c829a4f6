-- Steps after which each key is carried by what carried it before.
use Rattle.std.proofs.Common.{◌≡◌, ℕ, ◌<◌, sym, ◌∙◌, subst}
use Rattle.std.specs.Prelude.{Some}
use Rattle.std.specs.List.{slice_get}
use Rattle.squall_key.specs.Keys.{top}
use Rattle.squall_protocol.specs.Worlds.{WorldValue, SameWorld}
use Rattle.squall_protocol.specs.Promises.{Carrier, Holder, Flight, Carries}
use Rattle.squall_rows.specs.Rows.{RowsValue, carried_row, KeepsStored, KeepsCarried}

-- whatever carries the key, its row there is the map's
abbrev pub HasRows : {Row : Type 0} → RowsValue Row → (ℕ → Row) → Type 0
HasRows w m = (k : ℕ) → k < top → (y : Carrier) → Carries w.world k y → carried_row w y k ≡ m k

-- the second world holds, has loaded and carries the same
pub record Quiet (w v : WorldValue) : Type 0 where
  pub held : (p k : ℕ) → v.held p k ≡ w.held p k
  pub loaded : (n p k : ℕ) → v.loaded n p k ≡ w.loaded n p k
  pub chunks : v.chunks ≡ w.chunks

pub unchanged : (w v : WorldValue) → SameWorld v w → Quiet w v
unchanged w v s = record { held = s.held; loaded = s.loaded; chunks = s.chunks }

pub carried_before : (w v : WorldValue) → Quiet w v → (k : ℕ) (y : Carrier) → Carries v k y → Carries w k y
carried_before w v q k (Holder p) c = sym (q.held p k) ∙ c
carried_before w v q k (Flight i) c = (c.0, subst (λ xs. slice_get xs i ≡ Some c.0) q.chunks c.1, (c.2.0, sym (q.loaded c.0.number c.0.dest k) ∙ c.2.1))

pub quiet_rows : {Row : Type 0} (w v : RowsValue Row) (m : ℕ → Row) → Quiet w.world v.world → KeepsStored w v → KeepsCarried w v → HasRows w m → HasRows v m
quiet_rows w v m q stored carried rows k key (Holder p) c =
    let before : Carries w.world k (Holder p) = carried_before w.world v.world q k (Holder p) c in stored p k key before c ∙ rows k key (Holder p) before
quiet_rows w v m q stored carried rows k key (Flight i) c =
    let before : Carries w.world k (Flight i) = carried_before w.world v.world q k (Flight i) c in
    carried i k before.0 key before.1 before.2 ∙ rows k key (Flight i) before
