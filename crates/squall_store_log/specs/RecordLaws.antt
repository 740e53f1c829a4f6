-- Laws of records: each kind of payload is of one kind of record, and each record has one payload (this project's form).
use Rattle.std.specs.Prelude.{◌≢◌}
use Rattle.std.proofs.Common.{◌≡◌, ℕ, ◌^◌, ◌<◌, ◌≤◌, List, [], ◌∷◌, ◌++◌, length, refl, sym, ap, subst, ◌∙◌, append_assoc, arith}
use Rattle.std.specs.Int.{w32, w64, from_be_bytes}
use Rattle.std.proofs.lemmas.Nat.{from_be_bytes-to_be_bytes_4, from_be_bytes-to_be_bytes_8}
use Rattle.squall_key.specs.Keys.{top}
use Rattle.squall_log.specs.EntryLaws.{split_same}
use Rattle.squall_board.specs.Boards.{BoardValue}
use Rattle.squall_protocol.specs.Chunks.{ChunkValue, chunk_with}
use Rattle.squall_span.specs.Spans.{interval}
use Rattle.squall_wire.specs.declared.message.Message.TheVariants.{Delta}
use Rattle.std.specs.List.{AllByRecursion}
use Rattle.std.proofs.lemmas.List.{append-nil}
use Rattle.squall_wire.specs.Messages.{spell, IsMessage}
use Rattle.squall_wire.specs.HearingLaws.{one_frame}
use Rattle.squall_store_log.specs.declared.record.Record.{Record}
use Rattle.squall_store_log.specs.declared.record.Record.TheVariants.{Put, Delete, Give, GiveAt, Load, Absorb, Finish, Close}
use Rattle.squall_store.specs.Memory.{Values}
use Rattle.squall_store_log.specs.Records.{word, rank, spell_chunk, spell_row, spell_rows, spell_record, Fits, FitsChunk, FitsRow, AreWords}

-- ---- the kind of a payload

-- the number that begins the payload of a record, and the bytes after it
abbrev pub kind_of : Record → ℕ
kind_of (Put k v) = 1
kind_of (Delete k) = 2
kind_of (Give m) = 3
kind_of (GiveAt k) = 4
kind_of (Load c rs) = 5
kind_of (Absorb b) = 6
kind_of (Finish s) = 7
kind_of Close = 8

abbrev pub fields_of : Record → List ℕ
fields_of (Put k v) = rank k ++ v
fields_of (Delete k) = rank k
fields_of (Give m) = rank m
fields_of (GiveAt k) = rank k
fields_of (Load c rs) = spell_chunk c ++ spell_rows rs
fields_of (Absorb b) = spell (Delta b)
fields_of (Finish s) = word s
fields_of Close = []

pub payload_is : (r : Record) → spell_record r ≡ kind_of r ∷ fields_of r
payload_is (Put k v) = refl
payload_is (Delete k) = refl
payload_is (Give m) = refl
payload_is (GiveAt k) = refl
payload_is (Load c rs) = refl
payload_is (Absorb b) = refl
payload_is (Finish s) = refl
payload_is Close = refl

same_cons : (a b : ℕ) (xs ys : List ℕ) → a ∷ xs ≡ b ∷ ys → (a ≡ b) × (xs ≡ ys)
same_cons a b xs ys e = (cc, cc)

-- a payload of that kind and with these fields
pub of_kind : (r : Record) (kind : ℕ) (fields : List ℕ) → kind ∷ fields ≡ spell_record r → (kind ≡ kind_of r) × (fields ≡ fields_of r)
of_kind r kind fields e = same_cons kind (kind_of r) fields (fields_of r) (e ∙ payload_is r)

pub kind_within : (r : Record) → (1 ≤ kind_of r) × (kind_of r ≤ 8)
kind_within (Put k v) = (omega arith, omega arith)
kind_within (Delete k) = (omega arith, omega arith)
kind_within (Give m) = (omega arith, omega arith)
kind_within (GiveAt k) = (omega arith, omega arith)
kind_within (Load c rs) = (omega arith, omega arith)
kind_within (Absorb b) = (omega arith, omega arith)
kind_within (Finish s) = (omega arith, omega arith)
kind_within Close = (omega arith, omega arith)

pub is_put : (r : Record) → 1 ≡ kind_of r → (k : ℕ) × (v : List ℕ) × (r ≡ Put k v)
is_put (Put k v) e = (k, v, refl)
is_put (Delete k) e = absurd (omega (arith, e))
is_put (Give m) e = absurd (omega (arith, e))
is_put (GiveAt k) e = absurd (omega (arith, e))
is_put (Load c rs) e = absurd (omega (arith, e))
is_put (Absorb b) e = absurd (omega (arith, e))
is_put (Finish s) e = absurd (omega (arith, e))
is_put Close e = absurd (omega (arith, e))

pub is_delete : (r : Record) → 2 ≡ kind_of r → (k : ℕ) × (r ≡ Delete k)
is_delete (Put k v) e = absurd (omega (arith, e))
is_delete (Delete k) e = (k, refl)
is_delete (Give m) e = absurd (omega (arith, e))
is_delete (GiveAt k) e = absurd (omega (arith, e))
is_delete (Load c rs) e = absurd (omega (arith, e))
is_delete (Absorb b) e = absurd (omega (arith, e))
is_delete (Finish s) e = absurd (omega (arith, e))
is_delete Close e = absurd (omega (arith, e))

pub is_give : (r : Record) → 3 ≡ kind_of r → (m : ℕ) × (r ≡ Give m)
is_give (Put k v) e = absurd (omega (arith, e))
is_give (Delete k) e = absurd (omega (arith, e))
is_give (Give m) e = (m, refl)
is_give (GiveAt k) e = absurd (omega (arith, e))
is_give (Load c rs) e = absurd (omega (arith, e))
is_give (Absorb b) e = absurd (omega (arith, e))
is_give (Finish s) e = absurd (omega (arith, e))
is_give Close e = absurd (omega (arith, e))

pub is_give_at : (r : Record) → 4 ≡ kind_of r → (k : ℕ) × (r ≡ GiveAt k)
is_give_at (Put k v) e = absurd (omega (arith, e))
is_give_at (Delete k) e = absurd (omega (arith, e))
is_give_at (Give m) e = absurd (omega (arith, e))
is_give_at (GiveAt k) e = (k, refl)
is_give_at (Load c rs) e = absurd (omega (arith, e))
is_give_at (Absorb b) e = absurd (omega (arith, e))
is_give_at (Finish s) e = absurd (omega (arith, e))
is_give_at Close e = absurd (omega (arith, e))

pub is_load : (r : Record) → 5 ≡ kind_of r → (c : ChunkValue) × (rs : Values) × (r ≡ Load c rs)
is_load (Put k v) e = absurd (omega (arith, e))
is_load (Delete k) e = absurd (omega (arith, e))
is_load (Give m) e = absurd (omega (arith, e))
is_load (GiveAt k) e = absurd (omega (arith, e))
is_load (Load c rs) e = (c, rs, refl)
is_load (Absorb b) e = absurd (omega (arith, e))
is_load (Finish s) e = absurd (omega (arith, e))
is_load Close e = absurd (omega (arith, e))

pub is_absorb : (r : Record) → 6 ≡ kind_of r → (b : BoardValue) × (r ≡ Absorb b)
is_absorb (Put k v) e = absurd (omega (arith, e))
is_absorb (Delete k) e = absurd (omega (arith, e))
is_absorb (Give m) e = absurd (omega (arith, e))
is_absorb (GiveAt k) e = absurd (omega (arith, e))
is_absorb (Load c rs) e = absurd (omega (arith, e))
is_absorb (Absorb b) e = (b, refl)
is_absorb (Finish s) e = absurd (omega (arith, e))
is_absorb Close e = absurd (omega (arith, e))

pub is_finish : (r : Record) → 7 ≡ kind_of r → (s : ℕ) × (r ≡ Finish s)
is_finish (Put k v) e = absurd (omega (arith, e))
is_finish (Delete k) e = absurd (omega (arith, e))
is_finish (Give m) e = absurd (omega (arith, e))
is_finish (GiveAt k) e = absurd (omega (arith, e))
is_finish (Load c rs) e = absurd (omega (arith, e))
is_finish (Absorb b) e = absurd (omega (arith, e))
is_finish (Finish s) e = (s, refl)
is_finish Close e = absurd (omega (arith, e))

pub is_close : (r : Record) → 8 ≡ kind_of r → (r ≡ Close)
is_close (Put k v) e = absurd (omega (arith, e))
is_close (Delete k) e = absurd (omega (arith, e))
is_close (Give m) e = absurd (omega (arith, e))
is_close (GiveAt k) e = absurd (omega (arith, e))
is_close (Load c rs) e = absurd (omega (arith, e))
is_close (Absorb b) e = absurd (omega (arith, e))
is_close (Finish s) e = absurd (omega (arith, e))
is_close Close e = refl

-- ---- fields

pub one_word : (n m : ℕ) (x y : List ℕ) → n < 2 ^ 32 → m < 2 ^ 32 → word n ++ x ≡ word m ++ y → (n ≡ m) × (x ≡ y)
one_word n m x y lt too e =
    let parts = split_same (word n) (word m) x y refl e in
    (sym (from_be_bytes-to_be_bytes_4 n lt) ∙ ap (from_be_bytes w32) parts.0 ∙ from_be_bytes-to_be_bytes_4 m too, parts.1)

pub one_rank : (n m : ℕ) (x y : List ℕ) → n < 2 ^ 64 → m < 2 ^ 64 → rank n ++ x ≡ rank m ++ y → (n ≡ m) × (x ≡ y)
one_rank n m x y lt too e =
    let parts = split_same (rank n) (rank m) x y refl e in
    (sym (from_be_bytes-to_be_bytes_8 n lt) ∙ ap (from_be_bytes w64) parts.0 ∙ from_be_bytes-to_be_bytes_8 m too, parts.1)

pub fits_are_words : (c : ChunkValue) → FitsChunk c → AreWords c
fits_are_words c f =
    let some : c.span.lo < c.span.hi = f.some in
    let high : c.span.hi ≤ top = f.high in
    record { number = f.number; sub = omega (arith, f.sub); source = omega (arith, f.source); dest = omega (arith, f.dest); lo = omega arith; hi = omega arith }

chunk_parts : (c : ChunkValue) (x : List ℕ) → spell_chunk c ++ x ≡ word c.number ++ (word c.sub ++ (word c.source ++ (word c.dest ++ (rank c.span.lo ++ (rank c.span.hi ++ x)))))
chunk_parts c x = refl

same_chunk : (c d : ChunkValue) → c.number ≡ d.number → c.sub ≡ d.sub → c.source ≡ d.source → c.dest ≡ d.dest → c.span.lo ≡ d.span.lo → c.span.hi ≡ d.span.hi → c ≡ d
same_chunk c d e1 e2 e3 e4 e5 e6 =
    let made : chunk_with c.number c.sub c.source c.dest (interval c.span.lo c.span.hi) ≡ chunk_with d.number d.sub d.source d.dest (interval d.span.lo d.span.hi) =
    rw (e1, e2, e3, e4, e5, e6) refl
    in made

-- the bytes of a chunk say one chunk
pub one_chunk : (c d : ChunkValue) (x y : List ℕ) → AreWords c → AreWords d → spell_chunk c ++ x ≡ spell_chunk d ++ y → (c ≡ d) × (x ≡ y)
one_chunk c d x y p q e =
    let e1 = one_word c.number d.number _ _ p.number q.number e in
    let e2 = one_word c.sub d.sub _ _ p.sub q.sub e1.1 in
    let e3 = one_word c.source d.source _ _ p.source q.source e2.1 in
    let e4 = one_word c.dest d.dest _ _ p.dest q.dest e3.1 in
    let e5 = one_rank c.span.lo d.span.lo _ _ p.lo q.lo e4.1 in
    let e6 = one_rank c.span.hi d.span.hi x y p.hi q.hi e5.1 in
    (same_chunk c d e1.0 e2.0 e3.0 e4.0 e5.0 e6.0, e6.1)

-- ---- rows

row_parts : (e : ℕ × List ℕ) (x : List ℕ) → spell_row e ++ x ≡ rank e.0 ++ (word (length e.1) ++ (e.1 ++ x))
row_parts e x = refl

pub one_row : (p q : ℕ × List ℕ) (x y : List ℕ) → FitsRow p → FitsRow q → spell_row p ++ x ≡ spell_row q ++ y → (p ≡ q) × (x ≡ y)
one_row p q x y f g e =
    let keys = one_rank p.0 q.0 _ _ (omega (arith, f.key)) (omega (arith, g.key)) (sym (row_parts p x) ∙ e ∙ row_parts q y) in
    let sizes = one_word (length p.1) (length q.1) _ _ f.value g.value keys.1 in
    let values = split_same p.1 q.1 x y sizes.0 sizes.1 in
    (ap (λ (k : ℕ). (k, p.1)) keys.0 ∙ ap (λ (v : List ℕ). (q.0, v)) values.0, values.1)

pub spell_rows-push : (rows : Values) (e : ℕ × List ℕ) → spell_rows (rows ++ (e ∷ [])) ≡ spell_rows rows ++ spell_row e
spell_rows-push [] e = append-nil (spell_row e)
spell_rows-push (p ∷ rows) e = ap (λ (z : List ℕ). spell_row p ++ z) (spell_rows-push rows e) ∙ sym (append_assoc (spell_row p) (spell_rows rows) (spell_row e))

pub all-push : {X : Type 0} (P : X → Type 0) (xs : List X) (x : X) → AllByRecursion P xs → P x → AllByRecursion P (xs ++ (x ∷ []))
all-push P [] x all here = (here, tt)
all-push P (y ∷ xs) x all here = (all.0, all-push P xs x all.1 here)

-- rows that end in bytes that begin with no row
pub no_rows : (ps qs : Values) (rest : List ℕ) → AllByRecursion FitsRow ps → AllByRecursion FitsRow qs → rest ≢ []
    → ((e : ℕ × List ℕ) (x : List ℕ) → FitsRow e → rest ≡ spell_row e ++ x → ⊥) → spell_rows ps ++ rest ≡ spell_rows qs → ⊥
no_rows [] [] rest fits too some stuck e = some e
no_rows [] (q ∷ qs) rest fits too some stuck e = stuck q (spell_rows qs) too.0 e
no_rows (p ∷ ps) [] rest fits too some stuck e = absurd cc
no_rows (p ∷ ps) (q ∷ qs) rest fits too some stuck e =
    no_rows ps qs rest fits.1 too.1 some stuck (one_row p q (spell_rows ps ++ rest) (spell_rows qs) fits.0 too.0 (sym (append_assoc (spell_row p) (spell_rows ps) rest) ∙ e)).1

-- ---- one record

same_ranks : (n m : ℕ) → n < 2 ^ 64 → m < 2 ^ 64 → rank n ≡ rank m → n ≡ m
same_ranks n m lt too e = (one_rank n m [] [] lt too (ap (λ (z : List ℕ). z ++ []) e)).0

same_words : (n m : ℕ) → n < 2 ^ 32 → m < 2 ^ 32 → word n ≡ word m → n ≡ m
same_words n m lt too e = (one_word n m [] [] lt too (ap (λ (z : List ℕ). z ++ []) e)).0

pub same_rows : (ps qs : Values) → AllByRecursion FitsRow ps → AllByRecursion FitsRow qs → spell_rows ps ≡ spell_rows qs → ps ≡ qs
same_rows [] [] fits too e = refl
same_rows [] (q ∷ qs) fits too e = absurd cc
same_rows (p ∷ ps) [] fits too e = absurd cc
same_rows (p ∷ ps) (q ∷ qs) fits too e =
    let first = one_row p q (spell_rows ps) (spell_rows qs) fits.0 too.0 e in
    ap (λ (z : ℕ × List ℕ). z ∷ ps) first.0 ∙ ap (λ (z : Values). q ∷ z) (same_rows ps qs fits.1 too.1 first.1)

same_deltas : (a b : BoardValue) → IsMessage (Delta a) → IsMessage (Delta b) → spell (Delta a) ≡ spell (Delta b) → a ≡ b
same_deltas a b is too e =
    let same : Delta a ≡ Delta b = (one_frame (Delta a) (Delta b) [] [] is too (ap (λ (z : List ℕ). z ++ []) e)).0 in
    cc

-- each record has one payload, and no payload is of two records
pub one_record : (r s : Record) → Fits r → Fits s → spell_record r ≡ spell_record s → r ≡ s
one_record (Put k v) s fits too e =
    let kind = of_kind s 1 (rank k ++ v) e in
    let is = is_put s kind.0 in
    let fits_s : Fits (Put is.0 is.1) = subst Fits is.2 too in
    let parts = one_rank k is.0 v is.1 (omega (arith, fits)) (omega (arith, fits_s)) (kind.1 ∙ ap fields_of is.2) in
    ap (λ (z : ℕ). Put z v) parts.0 ∙ ap (λ (z : List ℕ). Put is.0 z) parts.1 ∙ sym is.2
one_record (Delete k) s fits too e =
    let kind = of_kind s 2 (rank k) e in
    let is = is_delete s kind.0 in
    let fits_s : Fits (Delete is.0) = subst Fits is.1 too in
    ap Delete (same_ranks k is.0 (omega (arith, fits)) (omega (arith, fits_s)) (kind.1 ∙ ap fields_of is.1)) ∙ sym is.1
one_record (Give m) s fits too e =
    let kind = of_kind s 3 (rank m) e in
    let is = is_give s kind.0 in
    ap Give (same_ranks m is.0 fits (subst Fits is.1 too) (kind.1 ∙ ap fields_of is.1)) ∙ sym is.1
one_record (GiveAt k) s fits too e =
    let kind = of_kind s 4 (rank k) e in
    let is = is_give_at s kind.0 in
    let fits_s : Fits (GiveAt is.0) = subst Fits is.1 too in
    ap GiveAt (same_ranks k is.0 (omega (arith, fits)) (omega (arith, fits_s)) (kind.1 ∙ ap fields_of is.1)) ∙ sym is.1
one_record (Load c rs) s fits too e =
    let kind = of_kind s 5 (spell_chunk c ++ spell_rows rs) e in
    let is = is_load s kind.0 in
    let fits_s : Fits (Load is.0 is.1) = subst Fits is.2 too in
    let chunks = one_chunk c is.0 (spell_rows rs) (spell_rows is.1) (fits_are_words c fits.0) (fits_are_words is.0 fits_s.0) (kind.1 ∙ ap fields_of is.2) in
    ap (λ (z : ChunkValue). Load z rs) chunks.0 ∙ ap (λ (z : Values). Load is.0 z) (same_rows rs is.1 fits.1 fits_s.1 chunks.1) ∙ sym is.2
one_record (Absorb b) s fits too e =
    let kind = of_kind s 6 (spell (Delta b)) e in
    let is = is_absorb s kind.0 in
    ap Absorb (same_deltas b is.0 fits (subst Fits is.1 too) (kind.1 ∙ ap fields_of is.1)) ∙ sym is.1
one_record (Finish n) s fits too e =
    let kind = of_kind s 7 (word n) e in
    let is = is_finish s kind.0 in
    ap Finish (same_words n is.0 fits (subst Fits is.1 too) (kind.1 ∙ ap fields_of is.1)) ∙ sym is.1
one_record Close s fits too e = sym (is_close s (of_kind s 8 [] e).0)
