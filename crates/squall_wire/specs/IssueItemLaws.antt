-- The laws of plans and issues in the form of a frame (this project's form).
use Rattle.std.proofs.Common.{◌≡◌, ℕ, zero, suc, ◌^◌, ◌<◌, ◌≤◌, Bool, true, false, List, [], ◌∷◌, ◌++◌, length, Result, Ok, refl, sym, ap, subst, ◌∙◌, append_assoc, arith, inl, inr}
use Rattle.std.specs.Prelude.{◌⊎◌, ◌&&◌, nat_lt, nat_le}
use Rattle.std.specs.List.{flat_map}
use Rattle.std.specs.Int.{w32, w64}
use Rattle.std.proofs.lemmas.Bool.Decides.{nat_tests}
use Rattle.squall_span.specs.Spans.{interval}
use Rattle.squall_join.specs.declared.flat.Flat.{Flat}
use Rattle.squall_join.specs.declared.flat.Flat.TheVariants.{Unknown, One, Clash}
use Rattle.squall_plan.specs.declared.range.PlanRange.{PlanRange}
use Rattle.squall_report.specs.Issues.{PlanPair, plan_pair}
use Rattle.squall_wire.specs.declared.fault.WireFault.{WireFault}
use Rattle.squall_wire.specs.Limits.{AreInTurn, PlanPoint, plan_start, range_in_range, range_in_order, after_range, plan_count_in_range, FitsRange, FitsPlan, FitsIssued, FitsIssue}
use Rattle.squall_wire.specs.Spelling.{word, rank, spell_range, spell_plan, spell_issued, spell_issue}
use Rattle.squall_wire.specs.Reading.{◌>>=◌, Read, number_at, byte_at, checked, many_at, range_at, plan_at, issue_head_at, issued_at, issue_at}
use Rattle.squall_wire.specs.FieldLaws.{IsBytes, Takes, Takes-then, bind_ok, bind_from, ok_is, checked_ok, checked_from, test_ok, word_takes, word_again, rank_takes, rank_again, byte_takes}
use Rattle.squall_wire.specs.ListLaws.{IsItem, many_takes, many_again}

abbrev done : {A : Type 0} → A → Result A WireFault
done x = Ok x

-- ---- ranges

abbrev range_with : PlanPoint → ℕ → ℕ → PlanRange
range_with point hi part = record { span = interval point.from hi; part = part }

abbrev range_part_step : PlanPoint → ℕ → ℕ × List ℕ → Read PlanRange
range_part_step point hi part = checked (range_in_range point (range_with point hi part.0)) (range_in_order point (range_with point hi part.0)) (range_with point hi part.0, part.1)

abbrev range_hi_step : PlanPoint → ℕ × List ℕ → Read PlanRange
range_hi_step point hi = number_at w32 hi.1 >>= range_part_step point hi.0

range_small : (point : PlanPoint) (r : PlanRange) → range_in_range point r ≡ true → (r.span.hi < 2 ^ 64) × (r.part < 2 ^ 32)
range_small point r h = (grind (arith, nat_tests), grind (arith, nat_tests))

range_again : (point : PlanPoint) (lo hi part : ℕ) (rest : List ℕ) → point.from ≡ lo → range_in_range point (record { span = interval lo hi; part = part }) ≡ true → range_in_order point (record { span = interval lo hi; part = part }) ≡ true
    → range_at point ((rank hi ++ word part) ++ rest) ≡ Ok (record { span = interval lo hi; part = part }, rest)
unfolding range_at
range_again point lo hi part rest from range order =
    let small = range_small point (record { span = interval lo hi; part = part }) range in
    let r1 : List ℕ = word part ++ rest in
    let made : PlanRange × List ℕ = (record { span = interval lo hi; part = part }, rest) in
    bind_from (number_at w64 (rank hi ++ r1)) (range_hi_step point) (hi, r1) (Ok made) (rank_again hi r1 small.0)
    (bind_from (number_at w32 r1) (range_part_step point hi) (part, rest) (Ok made) (word_again part rest small.1)
    (subst (λ (low : ℕ). checked (range_in_range point (record { span = interval low hi; part = part })) (range_in_order point (record { span = interval low hi; part = part })) (record { span = interval low hi; part = part }, rest) ≡ Ok made) (sym from)
    (checked_from (range_in_range point made.0) (range_in_order point made.0) made range order)))

pub range_item : IsItem range_at spell_range FitsRange
unfolding range_at
range_item = record {
  takes = λ point bytes x fits e.
      let a = bind_ok (number_at w64 bytes) (range_hi_step point) x e in
      let b = bind_ok (number_at w32 a.0.1) (range_part_step point a.0.0) x a.2 in
      let made : PlanRange × List ℕ = (range_with point a.0.0 b.0.0, b.0.1) in
      let c = checked_ok (range_in_range point made.0) (range_in_order point made.0) made x b.2 in
      let t0 = rank_takes bytes a.0 fits a.1 in
      let t1 = word_takes a.0.1 b.0 t0.0.rest_fits b.1 in
      let both = Takes-then bytes (rank a.0.0) a.0.1 (word b.0.0) b.0.1 t0.0 t1.0 in
      subst (λ (y : PlanRange × List ℕ). Takes bytes (spell_range y.0) y.1 × FitsRange point y.0) c.2 (both, record { from = refl; range = c.0; order = c.1 });
  again = λ point r rest fits. range_again point r.span.lo r.span.hi r.part rest (sym fits.from) fits.range fits.order;
}

-- ---- plans

abbrev plan_step : ℕ × List ℕ → Read (List PlanRange)
plan_step n = many_at range_at after_range n.0 (plan_start n.0) n.1

abbrev plan_count_step : ℕ × List ℕ → Read (List PlanRange)
plan_count_step n = checked (plan_count_in_range n.0) true n >>= plan_step

plan_small : (n : ℕ) → plan_count_in_range n ≡ true → n < 2 ^ 32
plan_small n h = grind (arith, nat_tests)

pub plan_takes : (bytes : List ℕ) (x : List PlanRange × List ℕ) → IsBytes bytes → plan_at bytes ≡ Ok x → Takes bytes (spell_plan x.0) x.1 × FitsPlan x.0
unfolding plan_at
plan_takes bytes x fits e =
    let a = bind_ok (number_at w32 bytes) plan_count_step x e in
    let b = test_ok (plan_count_in_range a.0.0) a.0 plan_step x a.2 in
    let t0 = word_takes bytes a.0 fits a.1 in
    let t1 = many_takes range_at after_range spell_range FitsRange range_item a.0.0 (plan_start a.0.0) a.0.1 x t0.0.rest_fits b.1 in
    let both = Takes-then bytes (word a.0.0) a.0.1 (flat_map spell_range x.0) x.1 t0.0 t1.0 in
    counted a.0.0 t1.1 b.0 both t1.2
  where
    counted : (n : ℕ) → length x.0 ≡ n → plan_count_in_range n ≡ true → Takes bytes (word n ++ flat_map spell_range x.0) x.1 → AreInTurn FitsRange after_range (plan_start n) x.0 → Takes bytes (spell_plan x.0) x.1 × FitsPlan x.0
    counted n same =
        subst (λ (m : ℕ). plan_count_in_range m ≡ true → Takes bytes (word m ++ flat_map spell_range x.0) x.1 → AreInTurn FitsRange after_range (plan_start m) x.0 → Takes bytes (spell_plan x.0) x.1 × FitsPlan x.0) same
        (λ range took turn. (took, record { count = range; turn = turn }))

pub plan_again : (rs : List PlanRange) (rest : List ℕ) → FitsPlan rs → plan_at (spell_plan rs ++ rest) ≡ Ok (rs, rest)
unfolding plan_at
plan_again rs rest fits =
    let n : ℕ = length rs in
    let tail : List ℕ = flat_map spell_range rs ++ rest in
    bind_from (number_at w32 (word n ++ tail)) plan_count_step (n, tail) (Ok (rs, rest)) (word_again n tail (plan_small n fits.count))
    (bind_from (checked (plan_count_in_range n) true (n, tail)) plan_step (n, tail) (Ok (rs, rest)) (checked_from (plan_count_in_range n) true (n, tail) fits.count refl)
    (many_again range_at after_range spell_range FitsRange range_item (plan_start n) rs rest fits.turn))

-- ---- issues

abbrev in_range : ℕ → ℕ → Bool
in_range number mark = nat_le 1 number && (nat_le 1 mark && nat_le mark 2)

abbrev issue_mark_step : ℕ → ℕ → ℕ × List ℕ → Read (ℕ × ℕ)
issue_mark_step last number mark = checked (in_range number mark.0) (nat_lt last number) ((number, mark.0), mark.1)

abbrev issue_number_step : ℕ → ℕ × List ℕ → Read (ℕ × ℕ)
issue_number_step last number = byte_at number.1 >>= issue_mark_step last number.0

-- what the head of an issue is
record IsHead (last : ℕ) (bytes : List ℕ) (head : ℕ × ℕ) (rest : List ℕ) : Type 0 where
  took : Takes bytes (word head.0 ++ (head.1 ∷ [])) rest
  word : head.0 < 2 ^ 32
  range : nat_le 1 head.0 ≡ true
  order : nat_lt last head.0 ≡ true
  mark : (head.1 ≡ 1) ⊎ (head.1 ≡ 2)

head_range : (number mark : ℕ) → in_range number mark ≡ true → (nat_le 1 number ≡ true) × ((mark ≡ 1) ⊎ (mark ≡ 2))
head_range number mark h = (and_left_true (nat_le 1 number) (nat_le 1 mark && nat_le mark 2) h, one_or_two mark (grind (arith, nat_tests)) (grind (arith, nat_tests)))
  where
    and_left_true : (p q : Bool) → (p && q) ≡ true → p ≡ true
    and_left_true true q e = refl
    and_left_true false q e = e

    one_or_two : (m : ℕ) → 1 ≤ m → m ≤ 2 → (m ≡ 1) ⊎ (m ≡ 2)
    one_or_two zero low high = absurd (omega arith)
    one_or_two (suc zero) low high = inl refl
    one_or_two (suc (suc zero)) low high = inr refl
    one_or_two (suc (suc (suc m))) low high = absurd (omega arith)

head_takes : (last : ℕ) (bytes : List ℕ) (x : (ℕ × ℕ) × List ℕ) → IsBytes bytes → issue_head_at last bytes ≡ Ok x → IsHead last bytes x.0 x.1
unfolding issue_head_at
head_takes last bytes x fits e =
    let a = bind_ok (number_at w32 bytes) (issue_number_step last) x e in
    let b = bind_ok (byte_at a.0.1) (issue_mark_step last a.0.0) x a.2 in
    let made : (ℕ × ℕ) × List ℕ = ((a.0.0, b.0.0), b.0.1) in
    let c = checked_ok (in_range a.0.0 b.0.0) (nat_lt last a.0.0) made x b.2 in
    let t0 = word_takes bytes a.0 fits a.1 in
    let t1 = byte_takes a.0.1 b.0 t0.0.rest_fits b.1 in
    let both = Takes-then bytes (word a.0.0) a.0.1 (b.0.0 ∷ []) b.0.1 t0.0 t1 in
    let range = head_range a.0.0 b.0.0 c.0 in
    subst (λ (y : (ℕ × ℕ) × List ℕ). IsHead last bytes y.0 y.1) c.2 (record { took = both; word = t0.1; range = range.0; order = c.1; mark = range.1 })

head_again : (last number mark : ℕ) (rest : List ℕ) → number < 2 ^ 32 → in_range number mark ≡ true → nat_lt last number ≡ true → issue_head_at last (word number ++ (mark ∷ rest)) ≡ Ok ((number, mark), rest)
unfolding issue_head_at
head_again last number mark rest small range order =
    bind_from (number_at w32 (word number ++ (mark ∷ rest))) (issue_number_step last) (number, mark ∷ rest) (Ok ((number, mark), rest)) (word_again number (mark ∷ rest) small)
    (checked_from (in_range number mark) (nat_lt last number) ((number, mark), rest) range order)

abbrev pair_step : List PlanRange → List PlanRange × List ℕ → Read (Flat PlanPair)
pair_step old new = Ok (One (plan_pair old new.0), new.1)

abbrev new_step : List PlanRange × List ℕ → Read (Flat PlanPair)
new_step old = plan_at old.1 >>= pair_step old.0

issued_takes : (mark : ℕ) (bytes : List ℕ) (x : Flat PlanPair × List ℕ) → (mark ≡ 1) ⊎ (mark ≡ 2) → IsBytes bytes → issued_at mark bytes ≡ Ok x → Takes (mark ∷ bytes) (spell_issued x.0) x.1 × FitsIssued x.0
unfolding issued_at
issued_takes mark bytes x (inl one) fits e =
    let pair : (plan_at bytes >>= new_step) ≡ Ok x = rw one at e in
    let a = bind_ok (plan_at bytes) new_step x pair in
    let b = bind_ok (plan_at a.0.1) (pair_step a.0.0) x a.2 in
    let t0 = plan_takes bytes a.0 fits a.1 in
    let t1 = plan_takes a.0.1 b.0 t0.0.rest_fits b.1 in
    let both = Takes-then bytes (spell_plan a.0.0) a.0.1 (spell_plan b.0.0) b.0.1 t0.0 t1.0 in
    let made : Flat PlanPair × List ℕ = (One (plan_pair a.0.0 b.0.0), b.0.1) in
    let marked : Takes (1 ∷ bytes) (1 ∷ (spell_plan a.0.0 ++ spell_plan b.0.0)) b.0.1 = record { parts = ap (λ (t : List ℕ). 1 ∷ t) both.parts; rest_fits = both.rest_fits } in
    subst (λ (y : Flat PlanPair × List ℕ). Takes (mark ∷ bytes) (spell_issued y.0) y.1 × FitsIssued y.0) (ok_is made x b.2)
    (subst (λ (m : ℕ). Takes (m ∷ bytes) (1 ∷ (spell_plan a.0.0 ++ spell_plan b.0.0)) b.0.1) (sym one) marked, (t0.1, t1.1))
issued_takes mark bytes x (inr two) fits e =
    let clash : done (Clash, bytes) ≡ Ok x = rw two at e in
    let marked : Takes (2 ∷ bytes) (2 ∷ []) bytes = record { parts = refl; rest_fits = fits } in
    subst (λ (y : Flat PlanPair × List ℕ). Takes (mark ∷ bytes) (spell_issued y.0) y.1 × FitsIssued y.0) (ok_is (Clash, bytes) x clash)
    (subst (λ (m : ℕ). Takes (m ∷ bytes) (2 ∷ []) bytes) (sym two) marked, tt)

abbrev issue_step : ℕ → Flat PlanPair × List ℕ → Read (ℕ × Flat PlanPair)
issue_step number issued = Ok ((number, issued.0), issued.1)

abbrev issued_step : (ℕ × ℕ) × List ℕ → Read (ℕ × Flat PlanPair)
issued_step head = issued_at head.0.1 head.1 >>= issue_step head.0.0

-- an issue whose head and mark are read is read
again_from : (last number mark : ℕ) (issued : Flat PlanPair) (text rest : List ℕ) → number < 2 ^ 32 → nat_le 1 number ≡ true → nat_lt last number ≡ true → (nat_le 1 mark && nat_le mark 2) ≡ true → issued_at mark (text ++ rest) ≡ Ok (issued, rest)
    → issue_at last ((word number ++ (mark ∷ text)) ++ rest) ≡ Ok ((number, issued), rest)
unfolding issue_at
again_from last number mark issued text rest small range order marked is =
    bind_from (issue_head_at last (word number ++ (mark ∷ (text ++ rest)))) issued_step ((number, mark), text ++ rest) (Ok ((number, issued), rest))
    (head_again last number mark (text ++ rest) small (ap (λ (b : Bool). b && (nat_le 1 mark && nat_le mark 2)) range ∙ marked) order)
    (bind_from (issued_at mark (text ++ rest)) (issue_step number) (issued, rest) (Ok ((number, issued), rest)) is refl)

issue_again : (last number : ℕ) (issued : Flat PlanPair) (rest : List ℕ) → number < 2 ^ 32 → nat_le 1 number ≡ true → nat_lt last number ≡ true → FitsIssued issued → issue_at last (spell_issue (number, issued) ++ rest) ≡ Ok ((number, issued), rest)
unfolding issued_at
issue_again last number Unknown rest small range order fits = absurd fits
issue_again last number (One pair) rest small range order fits =
    let text : List ℕ = spell_plan pair.old ++ spell_plan pair.new in
    let tail : List ℕ = spell_plan pair.new ++ rest in
    let read : (plan_at (text ++ rest) >>= new_step) ≡ Ok (One pair, rest) =
    ap (λ (t : List ℕ). plan_at t >>= new_step) (append_assoc (spell_plan pair.old) (spell_plan pair.new) rest)
    ∙ bind_from (plan_at (spell_plan pair.old ++ tail)) new_step (pair.old, tail) (Ok (One pair, rest)) (plan_again pair.old tail fits.0)
    (bind_from (plan_at tail) (pair_step pair.old) (pair.new, rest) (Ok (One pair, rest)) (plan_again pair.new rest fits.1) refl) in
    again_from last number 1 (One pair) text rest small range order refl read
issue_again last number Clash rest small range order fits = again_from last number 2 Clash [] rest small range order refl refl

pub issue_item : IsItem issue_at spell_issue FitsIssue
unfolding issue_at
issue_item = record {
  takes = λ last bytes x fits e.
      let a = bind_ok (issue_head_at last bytes) issued_step x e in
      let b = bind_ok (issued_at a.0.0.1 a.0.1) (issue_step a.0.0.0) x a.2 in
      let h = head_takes last bytes a.0 fits a.1 in
      let t = issued_takes a.0.0.1 a.0.1 b.0 h.mark h.took.rest_fits b.1 in
      let parts : bytes ≡ spell_issue (a.0.0.0, b.0.0) ++ b.0.1 = h.took.parts ∙ ap (λ (r : List ℕ). word a.0.0.0 ++ r) t.0.parts in
      let made : (ℕ × Flat PlanPair) × List ℕ = ((a.0.0.0, b.0.0), b.0.1) in
      subst (λ (y : (ℕ × Flat PlanPair) × List ℕ). Takes bytes (spell_issue y.0) y.1 × FitsIssue last y.0) (ok_is made x b.2)
      (record { parts = parts; rest_fits = t.0.rest_fits }, record { word = h.word; range = h.range; order = h.order; issued = t.1 });
  again = λ last e rest fits. issue_again last e.0 e.1 rest fits.word fits.range fits.order fits.issued;
}
