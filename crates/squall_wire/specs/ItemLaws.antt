-- The laws of openings, spans and cells, and of the rows of a digest (this project's form).
use Rattle.std.proofs.Common.{◌≡◌, ℕ, zero, suc, ◌^◌, ◌<◌, ◌≤◌, ◌==◌, Bool, true, false, cond, List, [], ◌∷◌, ◌++◌, length, Ok, refl, sym, ap, subst, ◌∙◌, arith}
use Rattle.std.specs.Prelude.{◌&&◌, ◌||◌, nat_lt, nat_le}
use Rattle.std.specs.List.{flat_map}
use Rattle.std.specs.Int.{w32, w64}
use Rattle.std.proofs.lemmas.Bool.Decides.{nat_tests}
use Rattle.squall_span.specs.Spans.{Interval, interval}
use Rattle.squall_report.specs.Cells.{CellPlace, place_at, is_cell_place}
use Rattle.squall_board.specs.declared.opening.Opening.{Opening}
use Rattle.squall_board.specs.Listed.{CellEntry, entry_with, has_spans, is_entry}
use Rattle.squall_wire.specs.declared.digest.IssueRow.{IssueRow}
use Rattle.squall_wire.specs.declared.digest.DigestRow.{DigestRow}
use Rattle.squall_wire.specs.Limits.{opening_in_range, FitsOpening, span_in_range, span_in_order, FitsSpan, after_span, is_later, FitsCell, FitsIssueRow, row_in_range, is_later_row, FitsRow}
use Rattle.squall_wire.specs.Spelling.{word, rank, spell_opening, spell_span, spell_place, spell_list, spell_cell, spell_issue_row, spell_row}
use Rattle.squall_wire.specs.Reading.{◌>>=◌, Read, number_at, byte_at, hash_at, checked, many_at, opening_at, span_at, CellHead, head_in_range, head_at, cell_at, issue_row_at, row_at}
use Rattle.squall_wire.specs.FieldLaws.{IsBytes, Takes, Takes-then, bind_ok, bind_from, ok_is, checked_ok, checked_from, word_takes, word_again, rank_takes, rank_again, byte_takes, hash_takes, hash_again}
use Rattle.squall_wire.specs.ListLaws.{IsItem, many_takes, many_again}

-- ---- openings

abbrev opening_with : ℕ → ℕ → Opening
opening_with number count = record { number = number; count = count }

abbrev opening_count_step : ℕ → ℕ → ℕ × List ℕ → Read Opening
opening_count_step last number count = checked (opening_in_range (opening_with number count.0)) (nat_lt last number) (opening_with number count.0, count.1)

abbrev opening_number_step : ℕ → ℕ × List ℕ → Read Opening
opening_number_step last number = number_at w32 number.1 >>= opening_count_step last number.0

opening_small : (number count : ℕ) → opening_in_range (opening_with number count) ≡ true → count < 2 ^ 32
opening_small number count h = grind (arith, nat_tests)

pub opening_item : IsItem opening_at spell_opening FitsOpening
unfolding opening_at
opening_item = record {
  takes = λ last bytes x fits e.
      let a = bind_ok (number_at w32 bytes) (opening_number_step last) x e in
      let b = bind_ok (number_at w32 a.0.1) (opening_count_step last a.0.0) x a.2 in
      let made : Opening × List ℕ = (opening_with a.0.0 b.0.0, b.0.1) in
      let c = checked_ok (opening_in_range (opening_with a.0.0 b.0.0)) (nat_lt last a.0.0) made x b.2 in
      let t0 = word_takes bytes a.0 fits a.1 in
      let t1 = word_takes a.0.1 b.0 t0.0.rest_fits b.1 in
      let both = Takes-then bytes (word a.0.0) a.0.1 (word b.0.0) b.0.1 t0.0 t1.0 in
      subst (λ (y : Opening × List ℕ). Takes bytes (spell_opening y.0) y.1 × FitsOpening last y.0) c.2 (both, record { word = t0.1; range = c.0; order = c.1 });
  again = λ last o rest fits.
      let r1 : List ℕ = word o.count ++ rest in
      bind_from (number_at w32 (word o.number ++ r1)) (opening_number_step last) (o.number, r1) (Ok (o, rest)) (word_again o.number r1 fits.word)
      (bind_from (number_at w32 r1) (opening_count_step last o.number) (o.count, rest) (Ok (o, rest)) (word_again o.count rest (opening_small o.number o.count fits.range))
      (checked_from (opening_in_range o) (nat_lt last o.number) (o, rest) fits.range fits.order));
}

-- ---- spans

abbrev span_hi_step : ℕ → ℕ → ℕ × List ℕ → Read Interval
span_hi_step floor lo hi = checked (span_in_range (interval lo hi.0)) (span_in_order floor (interval lo hi.0)) (interval lo hi.0, hi.1)

abbrev span_lo_step : ℕ → ℕ × List ℕ → Read Interval
span_lo_step floor lo = number_at w64 lo.1 >>= span_hi_step floor lo.0

span_small : (lo hi : ℕ) → span_in_range (interval lo hi) ≡ true → (lo < 2 ^ 64) × (hi < 2 ^ 64)
span_small lo hi h = (grind (arith, nat_tests), grind (arith, nat_tests))

pub span_item : IsItem span_at spell_span FitsSpan
unfolding span_at
span_item = record {
  takes = λ floor bytes x fits e.
      let a = bind_ok (number_at w64 bytes) (span_lo_step floor) x e in
      let b = bind_ok (number_at w64 a.0.1) (span_hi_step floor a.0.0) x a.2 in
      let made : Interval × List ℕ = (interval a.0.0 b.0.0, b.0.1) in
      let c = checked_ok (span_in_range (interval a.0.0 b.0.0)) (span_in_order floor (interval a.0.0 b.0.0)) made x b.2 in
      let t0 = rank_takes bytes a.0 fits a.1 in
      let t1 = rank_takes a.0.1 b.0 t0.0.rest_fits b.1 in
      let both = Takes-then bytes (rank a.0.0) a.0.1 (rank b.0.0) b.0.1 t0.0 t1.0 in
      subst (λ (y : Interval × List ℕ). Takes bytes (spell_span y.0) y.1 × FitsSpan floor y.0) c.2 (both, record { range = c.0; order = c.1 });
  again = λ floor s rest fits.
      let low = span_small s.lo s.hi fits.range in
      let r1 : List ℕ = rank s.hi ++ rest in
      bind_from (number_at w64 (rank s.lo ++ r1)) (span_lo_step floor) (s.lo, r1) (Ok (s, rest)) (rank_again s.lo r1 low.0)
      (bind_from (number_at w64 r1) (span_hi_step floor s.lo) (s.hi, rest) (Ok (s, rest)) (rank_again s.hi rest low.1)
      (checked_from (span_in_range s) (span_in_order floor s) (s, rest) fits.range fits.order));
}

-- ---- the heads of cells

abbrev spell_head : CellHead → List ℕ
spell_head h = spell_place h.place ++ ((h.done ∷ []) ++ word h.count)

record FitsHead (last : CellPlace) (h : CellHead) : Type 0 where
  number : h.place.number < 2 ^ 32
  count : h.count < 2 ^ 32
  range : head_in_range h ≡ true
  order : is_later last h.place ≡ true

abbrev head_with : CellPlace → ℕ → ℕ → CellHead
head_with place done count = record { place = place; done = done; count = count }

abbrev head_count_step : CellPlace → CellPlace → ℕ → ℕ × List ℕ → Read CellHead
head_count_step last place done count = checked (head_in_range (head_with place done count.0)) (is_later last place) (head_with place done count.0, count.1)

abbrev head_done_step : CellPlace → CellPlace → ℕ × List ℕ → Read CellHead
head_done_step last place done = number_at w32 done.1 >>= head_count_step last place done.0

abbrev head_part_step : CellPlace → ℕ → ℕ → ℕ × List ℕ → Read CellHead
head_part_step last number sub part = byte_at part.1 >>= head_done_step last (place_at number sub part.0)

abbrev head_sub_step : CellPlace → ℕ → ℕ × List ℕ → Read CellHead
head_sub_step last number sub = number_at w32 sub.1 >>= head_part_step last number sub.0

abbrev head_number_step : CellPlace → ℕ × List ℕ → Read CellHead
head_number_step last number = number_at w32 number.1 >>= head_sub_step last number.0

head_takes : (last : CellPlace) (bytes : List ℕ) (x : CellHead × List ℕ) → IsBytes bytes → head_at last bytes ≡ Ok x → Takes bytes (spell_head x.0) x.1 × FitsHead last x.0
unfolding head_at
head_takes last bytes x fits e =
    let a = bind_ok (number_at w32 bytes) (head_number_step last) x e in
    let b = bind_ok (number_at w32 a.0.1) (head_sub_step last a.0.0) x a.2 in
    let c = bind_ok (number_at w32 b.0.1) (head_part_step last a.0.0 b.0.0) x b.2 in
    let place : CellPlace = place_at a.0.0 b.0.0 c.0.0 in
    let d = bind_ok (byte_at c.0.1) (head_done_step last place) x c.2 in
    let f = bind_ok (number_at w32 d.0.1) (head_count_step last place d.0.0) x d.2 in
    let made : CellHead × List ℕ = (head_with place d.0.0 f.0.0, f.0.1) in
    let g = checked_ok (head_in_range (head_with place d.0.0 f.0.0)) (is_later last place) made x f.2 in
    let t0 = word_takes bytes a.0 fits a.1 in
    let t1 = word_takes a.0.1 b.0 t0.0.rest_fits b.1 in
    let t2 = word_takes b.0.1 c.0 t1.0.rest_fits c.1 in
    let t3 = byte_takes c.0.1 d.0 t2.0.rest_fits d.1 in
    let t4 = word_takes d.0.1 f.0 t3.rest_fits f.1 in
    let e12 = Takes-then a.0.1 (word b.0.0) b.0.1 (word c.0.0) c.0.1 t1.0 t2.0 in
    let e02 = Takes-then bytes (word a.0.0) a.0.1 (word b.0.0 ++ word c.0.0) c.0.1 t0.0 e12 in
    let e34 = Takes-then c.0.1 (d.0.0 ∷ []) d.0.1 (word f.0.0) f.0.1 t3 t4.0 in
    let e04 = Takes-then bytes (spell_place place) c.0.1 ((d.0.0 ∷ []) ++ word f.0.0) f.0.1 e02 e34 in
    subst (λ (y : CellHead × List ℕ). Takes bytes (spell_head y.0) y.1 × FitsHead last y.0) g.2 (e04, record { number = t0.1; count = t4.1; range = g.0; order = g.1 })

-- a head that is read lies within its limits
pub head_ranged : (last : CellPlace) (bytes : List ℕ) (x : CellHead × List ℕ) → head_at last bytes ≡ Ok x → head_in_range x.0 ≡ true
unfolding head_at
head_ranged last bytes x e =
    let a = bind_ok (number_at w32 bytes) (head_number_step last) x e in
    let b = bind_ok (number_at w32 a.0.1) (head_sub_step last a.0.0) x a.2 in
    let c = bind_ok (number_at w32 b.0.1) (head_part_step last a.0.0 b.0.0) x b.2 in
    let place : CellPlace = place_at a.0.0 b.0.0 c.0.0 in
    let d = bind_ok (byte_at c.0.1) (head_done_step last place) x c.2 in
    let f = bind_ok (number_at w32 d.0.1) (head_count_step last place d.0.0) x d.2 in
    let made : CellHead × List ℕ = (head_with place d.0.0 f.0.0, f.0.1) in
    let g = checked_ok (head_in_range (head_with place d.0.0 f.0.0)) (is_later last place) made x f.2 in
    subst (λ (y : CellHead × List ℕ). head_in_range y.0 ≡ true) g.2 g.0

head_small : (place : CellPlace) (done count : ℕ) → head_in_range (head_with place done count) ≡ true → (place.sub < 2 ^ 32) × (place.part < 2 ^ 32) × (done ≤ 1)
head_small place done count h = (grind (arith, nat_tests), grind (arith, nat_tests), grind (arith, nat_tests))

head_again : (last : CellPlace) (h : CellHead) (rest : List ℕ) → FitsHead last h → head_at last (spell_head h ++ rest) ≡ Ok (h, rest)
unfolding head_at
head_again last h rest fits =
    let small = head_small h.place h.done h.count fits.range in
    let r3 : List ℕ = word h.count ++ rest in
    let r2 : List ℕ = h.done ∷ r3 in
    let r1 : List ℕ = word h.place.part ++ r2 in
    let r0 : List ℕ = word h.place.sub ++ r1 in
    bind_from (number_at w32 (word h.place.number ++ r0)) (head_number_step last) (h.place.number, r0) (Ok (h, rest)) (word_again h.place.number r0 fits.number)
    (bind_from (number_at w32 r0) (head_sub_step last h.place.number) (h.place.sub, r1) (Ok (h, rest)) (word_again h.place.sub r1 small.0)
    (bind_from (number_at w32 r1) (head_part_step last h.place.number h.place.sub) (h.place.part, r2) (Ok (h, rest)) (word_again h.place.part r2 small.1)
    (bind_from (number_at w32 r3) (head_count_step last h.place h.done) (h.count, rest) (Ok (h, rest)) (word_again h.count rest fits.count)
    (checked_from (head_in_range h) (is_later last h.place) (h, rest) fits.range fits.order))))

-- ---- cells

done_back : (d : ℕ) → d ≤ 1 → cond (d == 1) 1 0 ≡ d
done_back zero le = refl
done_back (suc zero) le = refl
done_back (suc (suc d)) le = absurd (omega arith)

done_again : (b : Bool) → (cond b 1 0 == 1) ≡ b
done_again true = refl
done_again false = refl

has_counted : (xs : List Interval) → has_spans xs ≡ nat_le 1 (length xs)
has_counted [] = grind (arith, nat_tests)
has_counted (x ∷ xs) = grind (arith, nat_tests)

-- what the head says of the cell
pub entry_from_head : (h : CellHead) (spans : List Interval) → head_in_range h ≡ true → length spans ≡ h.count → is_entry (entry_with h.place (h.done == 1) spans) ≡ true
entry_from_head h spans range count =
    let counted : has_spans spans ≡ nat_le 1 h.count = has_counted spans ∙ ap (nat_le 1) count in
    and_from_both (is_cell_place h.place) (nat_le h.done 1) ((h.done == 1) || nat_le 1 h.count) ((h.done == 1) || has_spans spans) range (ap (λ (b : Bool). (h.done == 1) || b) counted)
  where
    and_from_both : (p q r s : Bool) → (p && (q && r)) ≡ true → s ≡ r → (p && s) ≡ true
    and_from_both true true r s e same = same ∙ e
    and_from_both true false r s e same = absurd cc
    and_from_both false q r s e same = e

head_from_entry : (place : CellPlace) (complete : Bool) (spans : List Interval) → is_entry (entry_with place complete spans) ≡ true → head_in_range (head_with place (cond complete 1 0) (length spans)) ≡ true
head_from_entry place true spans e = only (is_cell_place place) e
  where
    only : (p : Bool) → (p && true) ≡ true → (p && true) ≡ true
    only p f = f
head_from_entry place false spans e = ap (λ (b : Bool). is_cell_place place && b) (sym (has_counted spans)) ∙ e

abbrev made_cell : CellHead → List Interval × List ℕ → Read CellEntry
made_cell h spans = Ok (entry_with h.place (h.done == 1) spans.0, spans.1)

abbrev spans_step : CellHead × List ℕ → Read CellEntry
spans_step head = many_at span_at after_span head.0.count 0 head.1 >>= made_cell head.0

pub cell_item : IsItem cell_at spell_cell FitsCell
unfolding cell_at
cell_item = record {
  takes = λ last bytes x fits e.
      let a = bind_ok (head_at last bytes) spans_step x e in
      let h : CellHead = a.0.0 in
      let b = bind_ok (many_at span_at after_span h.count 0 a.0.1) (made_cell h) x a.2 in
      let spans : List Interval = b.0.0 in
      let th = head_takes last bytes a.0 fits a.1 in
      let ts = many_takes span_at after_span spell_span FitsSpan span_item h.count 0 a.0.1 b.0 th.0.rest_fits b.1 in
      let small = head_small h.place h.done h.count th.1.range in
      let both = Takes-then bytes (spell_head h) a.0.1 (flat_map spell_span spans) b.0.1 th.0 ts.0 in
      let counted : Takes bytes (spell_place h.place ++ ((h.done ∷ []) ++ spell_list spell_span spans)) b.0.1 =
      subst (λ (k : ℕ). Takes bytes (spell_place h.place ++ ((h.done ∷ []) ++ (word k ++ flat_map spell_span spans))) b.0.1) (sym ts.1) both in
      let made : CellEntry = entry_with h.place (h.done == 1) spans in
      let spelled : Takes bytes (spell_cell made) b.0.1 =
      subst (λ (d : ℕ). Takes bytes (spell_place h.place ++ ((d ∷ []) ++ spell_list spell_span spans)) b.0.1) (sym (done_back h.done small.2)) counted in
      let fit : FitsCell last made = record { word = th.1.number; range = entry_from_head h spans th.1.range ts.1; order = th.1.order; spans = record { count = omega (arith, th.1.count, ts.1); turn = ts.2 } } in
      subst (λ (y : CellEntry × List ℕ). Takes bytes (spell_cell y.0) y.1 × FitsCell last y.0) (ok_is (made, b.0.1) x b.2) (spelled, fit);
  again = λ last c rest fits.
      let h : CellHead = head_with c.cell (cond c.complete 1 0) (length c.spans) in
      let tail : List ℕ = flat_map spell_span c.spans ++ rest in
      bind_from (head_at last (spell_head h ++ tail)) spans_step (h, tail) (Ok (c, rest))
      (head_again last h tail (record { number = fits.word; count = fits.spans.count; range = head_from_entry c.cell c.complete c.spans fits.range; order = fits.order }))
      (bind_from (many_at span_at after_span (length c.spans) 0 tail) (made_cell h) (c.spans, rest) (Ok (c, rest))
      (many_again span_at after_span spell_span FitsSpan span_item 0 c.spans rest fits.spans.turn)
      (ap (λ (d : Bool). Ok (entry_with c.cell d c.spans, rest)) (done_again c.complete)));
}

-- ---- rows of a digest

abbrev issue_row_with : ℕ → List ℕ → IssueRow
issue_row_with number hash = record { number = number; hash = hash }

abbrev issue_hash_step : ℕ → ℕ → List ℕ × List ℕ → Read IssueRow
issue_hash_step last number hash = checked (nat_le 1 number) (nat_lt last number) (issue_row_with number hash.0, hash.1)

abbrev issue_number_step : ℕ → ℕ × List ℕ → Read IssueRow
issue_number_step last number = hash_at number.1 >>= issue_hash_step last number.0

pub issue_row_item : IsItem issue_row_at spell_issue_row FitsIssueRow
unfolding issue_row_at
issue_row_item = record {
  takes = λ last bytes x fits e.
      let a = bind_ok (number_at w32 bytes) (issue_number_step last) x e in
      let b = bind_ok (hash_at a.0.1) (issue_hash_step last a.0.0) x a.2 in
      let made : IssueRow × List ℕ = (issue_row_with a.0.0 b.0.0, b.0.1) in
      let c = checked_ok (nat_le 1 a.0.0) (nat_lt last a.0.0) made x b.2 in
      let t0 = word_takes bytes a.0 fits a.1 in
      let t1 = hash_takes a.0.1 b.0 t0.0.rest_fits b.1 in
      let both = Takes-then bytes (word a.0.0) a.0.1 b.0.0 b.0.1 t0.0 t1.0 in
      subst (λ (y : IssueRow × List ℕ). Takes bytes (spell_issue_row y.0) y.1 × FitsIssueRow last y.0) c.2 (both, record { word = t0.1; hash = t1.1; range = c.0; order = c.1 });
  again = λ last r rest fits.
      let r1 : List ℕ = r.hash ++ rest in
      bind_from (number_at w32 (word r.number ++ r1)) (issue_number_step last) (r.number, r1) (Ok (r, rest)) (word_again r.number r1 fits.word)
      (bind_from (hash_at r1) (issue_hash_step last r.number) (r.hash, rest) (Ok (r, rest)) (hash_again r.hash rest fits.hash)
      (checked_from (nat_le 1 r.number) (nat_lt last r.number) (r, rest) fits.range fits.order));
}

abbrev row_with : ℕ → ℕ → List ℕ → DigestRow
row_with number sub hash = record { number = number; sub = sub; hash = hash }

abbrev row_hash_step : ℕ × ℕ → ℕ → ℕ → List ℕ × List ℕ → Read DigestRow
row_hash_step last number sub hash = checked (row_in_range (row_with number sub hash.0)) (is_later_row last (row_with number sub hash.0)) (row_with number sub hash.0, hash.1)

abbrev row_sub_step : ℕ × ℕ → ℕ → ℕ × List ℕ → Read DigestRow
row_sub_step last number sub = hash_at sub.1 >>= row_hash_step last number sub.0

abbrev row_number_step : ℕ × ℕ → ℕ × List ℕ → Read DigestRow
row_number_step last number = number_at w32 number.1 >>= row_sub_step last number.0

row_small : (r : DigestRow) → row_in_range r ≡ true → r.sub < 2 ^ 32
row_small r h = grind (arith, nat_tests)

pub row_item : IsItem row_at spell_row FitsRow
unfolding row_at
row_item = record {
  takes = λ last bytes x fits e.
      let a = bind_ok (number_at w32 bytes) (row_number_step last) x e in
      let b = bind_ok (number_at w32 a.0.1) (row_sub_step last a.0.0) x a.2 in
      let c = bind_ok (hash_at b.0.1) (row_hash_step last a.0.0 b.0.0) x b.2 in
      let row : DigestRow = row_with a.0.0 b.0.0 c.0.0 in
      let g = checked_ok (row_in_range row) (is_later_row last row) (row, c.0.1) x c.2 in
      let t0 = word_takes bytes a.0 fits a.1 in
      let t1 = word_takes a.0.1 b.0 t0.0.rest_fits b.1 in
      let t2 = hash_takes b.0.1 c.0 t1.0.rest_fits c.1 in
      let e12 = Takes-then a.0.1 (word b.0.0) b.0.1 c.0.0 c.0.1 t1.0 t2.0 in
      let e02 = Takes-then bytes (word a.0.0) a.0.1 (word b.0.0 ++ c.0.0) c.0.1 t0.0 e12 in
      subst (λ (y : DigestRow × List ℕ). Takes bytes (spell_row y.0) y.1 × FitsRow last y.0) g.2 (e02, record { word = t0.1; hash = t2.1; range = g.0; order = g.1 });
  again = λ last r rest fits.
      let r2 : List ℕ = r.hash ++ rest in
      let r1 : List ℕ = word r.sub ++ r2 in
      bind_from (number_at w32 (word r.number ++ r1)) (row_number_step last) (r.number, r1) (Ok (r, rest)) (word_again r.number r1 fits.word)
      (bind_from (number_at w32 r1) (row_sub_step last r.number) (r.sub, r2) (Ok (r, rest)) (word_again r.sub r2 (row_small r fits.range))
      (bind_from (hash_at r2) (row_hash_step last r.number r.sub) (r.hash, rest) (Ok (r, rest)) (hash_again r.hash rest fits.hash)
      (checked_from (row_in_range r) (is_later_row last r) (r, rest) fits.range fits.order)));
}
