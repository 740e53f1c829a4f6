-- A cell is made of every head that is read and its spans.
use Rattle.std.proofs.Common.{◌≡◌, ℕ, ◌==◌, Bool, cond, List, Option, None, Some, Ok, ap, ◌∙◌, sym}
use Rattle.squall_span.specs.Spans.{Interval}
use Rattle.squall_report.specs.Cells.{CellPlace}
use Rattle.squall_board.specs.Listed.{CellEntry, entry_with, entry_of}
use Rattle.squall_wire.specs.Limits.{after_span}
use Rattle.squall_wire.specs.Reading.{CellHead, head_at, many_at, span_at}
use Rattle.squall_wire.specs.ListLaws.{many_count}
use Rattle.squall_wire.specs.ItemLaws.{head_ranged, entry_from_head}

pub cell_is_there : (last : CellPlace) (bytes : List ℕ) (h : CellHead) (rest : List ℕ) (spans : List Interval) (end : List ℕ) → head_at last bytes ≡ Ok (h, rest) → many_at span_at after_span h.count 0 rest ≡ Ok (spans, end)
    → entry_of h.place.number h.place.sub h.place.part (h.done == 1) spans ≡ Some (entry_with h.place (h.done == 1) spans)
cell_is_there last bytes h rest spans end e f =
    let made : CellEntry = entry_with h.place (h.done == 1) spans in
    let fits = entry_from_head h spans (head_ranged last bytes (h, rest) e) (many_count span_at after_span h.count 0 rest (spans, end) f) in
    ap (λ (b : Bool). cond b (Some made) None) fits

pub not_none : {A : Type 0} (o : Option A) (x : A) → o ≡ Some x → o ≡ None → ⊥
not_none o x e f =
    let g : Some x ≡ None = sym e ∙ f in
    cc
