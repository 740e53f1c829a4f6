-- What a store wrote goes on.
use Rattle.std.proofs.Common.{◌≡◌, ℕ, Bool, true, false, List, [], ◌∷◌, ◌++◌, Ok, refl, sym, ap, subst, ◌∙◌, inl, inr}
use Rattle.std.specs.Prelude.{◌&&◌, not}
use Rattle.std.proofs.lemmas.Bool.{cases_Bool}
use Rattle.std.proofs.lemmas.List.{append-nil}
use Rattle.squall_span.specs.Spans.{has, span_has}
use Rattle.squall_log.specs.Entries.{entry}
use Rattle.squall_part.specs.Parts.{loaded_by}
use Rattle.squall_replay.specs.declared.call.Answer.TheVariants.{Absorbed, Gave, Loaded, Again, Finished, Closed}
use Rattle.squall_store.specs.Memory.{value_at}
use Rattle.squall_store.specs.Systems.{restarts}
use Rattle.squall_store_log.specs.declared.record.Record.{Record}
use Rattle.squall_store_log.specs.declared.record.Record.TheVariants.{Put, Delete, Give, GiveAt, Load, Absorb, Finish, Close}
use Rattle.squall_store_log.specs.declared.answer.Answer.{Answer}
use Rattle.squall_store_log.specs.declared.answer.Answer.TheVariants.{Row, Part}
use Rattle.squall_store_log.specs.Records.{spell_record}
use Rattle.squall_store_log.specs.RecordLaws.{all-push}
use Rattle.squall_store_log.specs.Restarts.{Restarts}
use Rattle.squall_store_log.specs.Steps.{Rows, IsAlike, Makes, IsRecord, spell_log, Wrote, changes, logged_by}
use Rattle.squall_store_log.proofs.Alike.{comes_on, comes_alike}
use Rattle.squall_store_log.proofs.Cuts.{spell_log-append}

and_not_true : (a b : Bool) → b ≡ true → (a && not b) ≡ false
and_not_true true b e = rw e refl
and_not_true false b e = refl

-- a chunk that comes again changes nothing that is held
again_alike : (s t : Rows) (r : Record) → Makes s r (Part Again) t → IsAlike s t
again_alike s t (Load chunk rows) m = record {
  part = m.happens.2;
  rows = λ k h. m.others k (and_not_true (span_has chunk.span k && not (has (loaded_by s.part chunk.number) k)) (has s.part.held k) h) h;
}
again_alike s t (Put key value) m = absurd m
again_alike s t (Delete key) m = absurd m
again_alike s t (Give most) m = absurd m.happens
again_alike s t (GiveAt key) m = absurd m.happens
again_alike s t (Absorb delta) m = absurd m.happens
again_alike s t (Finish sub) m = absurd m.happens
again_alike s t Close m = absurd m.happens

abbrev answered : Answer → Bool
answered a = changes (Ok a)

only_again : (a : Answer) → answered a ≡ false → a ≡ Part Again
only_again (Row before) e = absurd cc
only_again (Part Absorbed) e = absurd cc
only_again (Part (Gave chunk)) e = absurd cc
only_again (Part (Loaded report)) e = absurd cc
only_again (Part Again) e = refl
only_again (Part (Finished report)) e = absurd cc
only_again (Part (Closed number)) e = absurd cc

pub alike_goes_on : (first s t : Rows) (log : List ℕ) → Wrote first log s → IsAlike s t → Wrote first log t
alike_goes_on first s t log w a = record { records = w.records; each = w.each; spelled = w.spelled; comes = comes_alike first s t w.records w.comes a }

one_more : (first s t : Rows) (log : List ℕ) (r : Record) (a : Answer) → Wrote first log s → IsRecord r → Makes s r a t → Wrote first (log ++ entry (spell_record r)) t
one_more first s t log r a w is m = record {
  records = w.records ++ (r ∷ []);
  each = all-push IsRecord w.records r w.each is;
  spelled = ap (λ (z : List ℕ). z ++ entry (spell_record r)) w.spelled ∙ ap (λ (z : List ℕ). spell_log w.records ++ z) (sym (append-nil (entry (spell_record r)))) ∙ sym (spell_log-append w.records (r ∷ []));
  comes = comes_on first s t w.records r a w.comes m;
}

pub made_goes_on : (first s t : Rows) (log : List ℕ) (r : Record) (a : Answer) → Wrote first log s → IsRecord r → Makes s r a t → Wrote first (log ++ logged_by (Ok a) r) t
made_goes_on first s t log r a w is m = elim (cases_Bool (answered a)) [
  | inl changed ↦ rw changed (one_more first s t log r a w is m)
  | inr same ↦
      let again : Makes s r (Part Again) t = subst (λ (z : Answer). Makes s r z t) (only_again a same) m in
      rw same (subst (λ (z : List ℕ). Wrote first z t) (sym (append-nil log)) (alike_goes_on first s t log w (again_alike s t r again)))
]

pub opened_restarts : Restarts
opened_restarts first s p there store stands is same =
    restarts p there.part store.part (value_at store.rows) stands.part same.part is (λ k lt h. same.rows k h ∙ sym (stands.has_rows k))
