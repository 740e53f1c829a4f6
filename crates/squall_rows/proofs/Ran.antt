-- A command changes the row of its key where the key is held, and so in the map.
use Rattle.std.proofs.Common.{◌≡◌, ℕ, ◌==◌, sym, ap, ◌∙◌, subst, ⊎_elim}
use Rattle.std.proofs.lemmas.Bool.{cases_eq, eq-eqb, ne_eqb, cond-true, cond-false}
use Rattle.squall_protocol.specs.Promises.{Carrier, Holder, Flight, Carries, OneCarrier}
use Rattle.squall_rows.specs.Rows.{RowsValue, carried_row}
use Rattle.squall_rows.specs.RowSteps.{RunStep}
use Rattle.squall_rows.specs.OneMap.{with_row}
use Rattle.squall_rows.proofs.Quiet.{HasRows, Quiet, carried_before, unchanged}

module _ {Row Command Reply : Type 0} (run : Command → Row → Row × Reply) (w v : RowsValue Row) (m : ℕ → Row) (p k after : ℕ) (command : Command) (reply : Reply) where
  -- the row that it reads is the map's
  read : RunStep run w p k after command reply v → HasRows w m → w.stored p k ≡ m k
  read step rows = rows k step.0 (Holder p) step.1.1

  pub ran_reply : RunStep run w p k after command reply v → HasRows w m → reply ≡ (run command (m k)).1
  ran_reply step rows = step.3 ∙ ap (λ row. (run command row).1) (read step rows)

  pub ran_rows : OneCarrier w.world → RunStep run w p k after command reply v → HasRows w m → HasRows v (with_row m k (run command (m k)).0)
  ran_rows one step rows j key y c = ⊎_elim here elsewhere (cases_eq j k)
    where
      quiet : Quiet w.world v.world
      quiet = unchanged w.world v.world step.1.2

      before : Carries w.world j y
      before = carried_before w.world v.world quiet j y c

      -- the partition that runs the command is the key's one carrier
      here : j ≡ k → carried_row v y j ≡ with_row m k (run command (m k)).0 j
      here same =
          let only = one k step.0 in
          let is : y ≡ Holder p = only.2 y (subst (λ l. Carries w.world l y) same before) ∙ sym (only.2 (Holder p) step.1.1) in
          let made : v.stored p k ≡ (run command (m k)).0 = step.2 ∙ ap (λ row. (run command row).0) (read step rows) in
          subst (λ (z : Carrier). carried_row v z j ≡ (run command (m k)).0) (sym is) (subst (λ l. v.stored p l ≡ (run command (m k)).0) (sym same) made)
          ∙ sym (cond-true (j == k) (run command (m k)).0 (m j) (eq-eqb j k same))

      other_row : (j ≡ k → ⊥) → (z : Carrier) → Carries w.world j z → carried_row v z j ≡ m j
      other_row other (Holder q) at = step.4 q j key at (λ both. other both.1) ∙ rows j key (Holder q) at
      other_row other (Flight i) at = step.5 i j at.0 key at.1 at.2 ∙ rows j key (Flight i) at

      elsewhere : (j ≡ k → ⊥) → carried_row v y j ≡ with_row m k (run command (m k)).0 j
      elsewhere other = other_row other y before ∙ sym (cond-false (j == k) (run command (m k)).0 (m j) (ne_eqb j k other))
