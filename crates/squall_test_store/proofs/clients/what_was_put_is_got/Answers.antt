use Rattle.std.proofs.Common.{◌≡◌, ℕ, ◌==◌, List, [], ◌∷◌, ◌++◌, refl, sym, ◌∙◌}
use Rattle.std.specs.Prelude.{Some}
use Rattle.std.proofs.lemmas.Bool.{eq-eqb, ne_eqb, cond-true, cond-false}
use Rattle.squall_store.specs.declared.command.Command.TheVariants.{Get, Put}
use Rattle.squall_store.specs.Memory.{run_on}
use Rattle.squall_store.specs.Systems.{first_rows, AreRepliesOf}
use Rattle.squall_rows.specs.OneMap.{with_row}
use Rattle.squall_test_store.specs.Clients.{Row, DoneOnRows, done, AreElsewhere}
use Rattle.squall_test_store.proofs.clients.what_was_put_is_got.Goals as goal

-- commands on other keys leave the row
got : (m : ℕ → Row) (between : List DoneOnRows) (k : ℕ) (value : List ℕ) (x : Row) → m k ≡ Some value → AreElsewhere k between → AreRepliesOf run_on m (between ++ done k Get x ∷ []) → x ≡ Some value
got m [] k value x has elsewhere replies = replies.0 ∙ has
got m (d ∷ between) k value x has elsewhere replies =
    got (with_row m d.key (run_on d.command (m d.key)).0) between k value x
    (cond-false (k == d.key) (run_on d.command (m d.key)).0 (m k) (ne_eqb k d.key (λ same. elsewhere.0 (sym same))) ∙ has) elsewhere.1 replies.1

-- whatever ran before
after_put : (m : ℕ → Row) (before between : List DoneOnRows) (k : ℕ) (value : List ℕ) (r x : Row) → AreElsewhere k between
    → AreRepliesOf run_on m (before ++ (done k (Put value) r ∷ (between ++ done k Get x ∷ []))) → x ≡ Some value
after_put m [] between k value r x elsewhere replies = got (with_row m k (Some value)) between k value x (cond-true (k == k) (Some value) (m k) (eq-eqb k k refl)) elsewhere replies.1
after_put m (d ∷ before) between k value r x elsewhere replies = after_put (with_row m d.key (run_on d.command (m d.key)).0) before between k value r x elsewhere replies.1

pub returns : goal.returns
returns c old new routers s t before between k value r x elsewhere run =
    after_put (first_rows s old) before between k value r x elsewhere (c.stores_are_one_map.ensures.replies run_on old new routers s t (before ++ (done k (Put value) r ∷ (between ++ done k Get x ∷ []))) run)
