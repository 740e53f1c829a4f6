-- Payloads of no record.
use Rattle.std.specs.Prelude.{◌≢◌}
use Rattle.std.specs.List.{AllByRecursion}
use Rattle.std.proofs.Common.{◌≡◌, ℕ, ◌<◌, List, [], ◌∷◌, ◌++◌, length, Err, refl, sym, ap, subst, ◌∙◌, append_assoc, drop, get_or, ◌+◌}
use Rattle.std.proofs.lemmas.List.{append-nil, drop_more}
use Rattle.squall_board.specs.Boards.{BoardValue}
use Rattle.squall_protocol.specs.Chunks.{ChunkValue}
use Rattle.squall_wire.specs.declared.message.Message.TheVariants.{Delta}
use Rattle.squall_wire.specs.Messages.{spell, IsMessage}
use Rattle.squall_store.specs.Memory.{Values}
use Rattle.squall_store_log.specs.declared.fault.ReadFault.{ReadFault}
use Rattle.squall_store_log.specs.declared.fault.ReadFault.TheVariants.{Strange, NoMemory}
use Rattle.squall_store_log.specs.declared.record.Record.{Record}
use Rattle.squall_store_log.specs.declared.record.Record.TheVariants.{Load}
use Rattle.squall_store_log.specs.Records.{spell_chunk, spell_row, spell_rows, spell_record, Fits, FitsChunk, FitsRow, AreWords, IsPushed, ReadsRows}
use Rattle.squall_store_log.specs.RecordLaws.{of_kind, fields_of, is_load, is_absorb, one_chunk, fits_are_words, no_rows, all-push, spell_rows-push}

-- the fields of a delta
pub absorbed : (fields : List ℕ) (r : Record) → Fits r → 6 ∷ fields ≡ spell_record r → (b : BoardValue) × IsMessage (Delta b) × (fields ≡ spell (Delta b) ++ [])
absorbed fields r fits e =
    let kind = of_kind r 6 fields e in
    let is = is_absorb r kind.0 in
    (is.0, subst Fits is.1 fits, kind.1 ∙ ap fields_of is.1 ∙ sym (append-nil (spell (Delta is.0))))

-- the fields of a load
pub loaded : (fields : List ℕ) (r : Record) → Fits r → 5 ∷ fields ≡ spell_record r → (c : ChunkValue) × (rs : Values) × FitsChunk c × AllByRecursion FitsRow rs × (fields ≡ spell_chunk c ++ spell_rows rs)
loaded fields r fits e =
    let kind = of_kind r 5 fields e in
    let is = is_load r kind.0 in
    let parts : Fits (Load is.0 is.1) = subst Fits is.2 fits in
    (is.0, is.1, parts.0, parts.1, kind.1 ∙ ap fields_of is.2)

-- the numbers that begin the bytes are of no chunk
pub other_chunk : (c : ChunkValue) (bytes after : List ℕ) → AreWords c → bytes ≡ spell_chunk c ++ after → (FitsChunk c → ⊥) → (d : ChunkValue) (rest : List ℕ) → FitsChunk d → bytes ≡ spell_chunk d ++ rest → ⊥
other_chunk c bytes after words read bad d rest fits e =
    bad (subst FitsChunk (sym (one_chunk c d after rest words (fits_are_words d fits) (sym read ∙ e)).0) fits)

-- rows that were read end in bytes that begin with no row
pub rows_stop : (bytes rest : List ℕ) (rows : Values) (fault : ReadFault) → AllByRecursion FitsRow rows → bytes ≡ spell_rows rows ++ rest → rest ≢ []
    → (fault ≡ Strange → (e : ℕ × List ℕ) (x : List ℕ) → FitsRow e → rest ≢ spell_row e ++ x) → ReadsRows bytes (Err fault)
rows_stop bytes rest rows Strange fits read some stuck = λ qs too e. no_rows rows qs rest fits too some (stuck refl) (sym read ∙ e)
rows_stop bytes rest rows NoMemory fits read some stuck = tt

-- one more row was read
pub rows_go_on : (bytes rest after : List ℕ) (rows new : Values) → IsPushed rows new rest after → AllByRecursion FitsRow rows → bytes ≡ spell_rows rows ++ rest
    → AllByRecursion FitsRow new × (bytes ≡ spell_rows new ++ after)
rows_go_on bytes rest after rows new p fits read =
    let all : AllByRecursion FitsRow (rows ++ (p.row ∷ [])) = all-push FitsRow rows p.row fits p.fits in
    let spelled : bytes ≡ spell_rows (rows ++ (p.row ∷ [])) ++ after =
    read ∙ ap (λ (z : List ℕ). spell_rows rows ++ z) p.read ∙ sym (append_assoc (spell_rows rows) (spell_row p.row) after) ∙ ap (λ (z : List ℕ). z ++ after) (sym (spell_rows-push rows p.row))
    in (subst (AllByRecursion FitsRow) (sym p.pushed) all, spelled ∙ ap (λ (z : Values). spell_rows z ++ after) (sym p.pushed))

-- ---- rows that are written

pub rows_written : (rows : Values) (i : ℕ) (row : ℕ × List ℕ) (out new start : List ℕ) → i < length rows → row ≡ get_or rows i row → new ≡ out ++ spell_row row → FitsRow row
    → out ++ spell_rows (drop i rows) ≡ start ++ spell_rows rows → (AllByRecursion FitsRow (drop i rows) → AllByRecursion FitsRow rows)
    → (new ++ spell_rows (drop (i + 1) rows) ≡ start ++ spell_rows rows) × (AllByRecursion FitsRow (drop (i + 1) rows) → AllByRecursion FitsRow rows)
rows_written rows i row out new start lt is written fits spelled all =
    let parts : drop i rows ≡ row ∷ drop (i + 1) rows = drop_more rows i row lt ∙ ap (λ (z : ℕ × List ℕ). z ∷ drop (i + 1) rows) (sym is) in (
      ap (λ (z : List ℕ). z ++ spell_rows (drop (i + 1) rows)) written ∙ append_assoc out (spell_row row) (spell_rows (drop (i + 1) rows)) ∙ ap (λ (z : Values). out ++ spell_rows z) (sym parts) ∙ spelled,
      λ later. all (subst (AllByRecursion FitsRow) (sym parts) (fits, later)),
    )
