-- What a put makes of the map of a world, and what the next command on its key shows.
use Rattle.std.proofs.Common.{◌≡◌, ◌≢◌, ℕ, ◌==◌, List, Some, refl, ap, ◌∙◌}
use Rattle.std.proofs.lemmas.Bool.{cond-false, ne_eqb}
use Rattle.squall_rows.specs.RowSteps.{Ask, Ran}
use Rattle.squall_rows.specs.OneMap.{with_row}
use Rattle.squall_store.specs.declared.command.Command.{Command}
use Rattle.squall_store.specs.declared.command.Command.TheVariants.{Get, Put, Delete}
use Rattle.squall_store.specs.Memory.{run_on}
use Rattle.squall_world.proofs.Lists.{eq_refl}
use Rattle.squall_world_rows.specs.Seen.{BytesRow}
use Rattle.squall_world_rows.specs.Maps.{MapWorld, MapStep}

-- each command shows the row as it was
shows : (command : Command) (row : BytesRow) → (run_on command row).1 ≡ row
shows Get row = refl
shows (Put value) row = refl
shows Delete row = refl

here : (m : ℕ → BytesRow) (k : ℕ) (row : BytesRow) → with_row m k row k ≡ row
here m k row = rw (eq_refl k) refl

pub got : (w v u : MapWorld) (p q k n m : ℕ) (text : List ℕ) (command : Command) (before row : BytesRow) → MapStep w (Ask p k n (Put text)) (Ran before) v → MapStep v (Ask q k m command) (Ran row) u → row ≡ Some text
got w v u p q k n m text command before row h g = g.1 ∙ shows command (v.map k) ∙ ap (λ map. map k) h.2 ∙ here w.map k (Some text)

pub other_rows : (w v : MapWorld) (p k n j : ℕ) (text : List ℕ) (before : BytesRow) → MapStep w (Ask p k n (Put text)) (Ran before) v → j ≢ k → v.map j ≡ w.map j
other_rows w v p k n j text before h differs = ap (λ map. map j) h.2 ∙ cond-false (j == k) (Some text) (w.map j) (ne_eqb j k differs)
