-- What the calls of a store promise, in a system in which it stands.
use Rattle.std.proofs.Common.{◌≡◌, ◌≢◌, ℕ, ◌<◌, ◌==◌, true, false, [], Result, Ok, Err, Option, Some, OnOk, OnErr, refl, sym, ap, ◌∙◌, subst, if◌then◌else◌, ⊎_elim}
use Rattle.std.specs.Prelude.{IfOk}
use Rattle.std.specs.List.{slice_get}
use Rattle.std.proofs.lemmas.Bool.{cond-true, eq-eqb}
use Rattle.squall_key.specs.Keys.{top}
use Rattle.squall_span.specs.Spans.{has, span_has}
use Rattle.squall_course.specs.Change.{Change}
use Rattle.squall_report.specs.declared.report.ReportKind.{ReportKind}
use Rattle.squall_report.specs.Issues.{PlanPair}
use Rattle.squall_board.specs.Boards.{BoardValue}
use Rattle.squall_board.specs.Takes.{TakesBoard}
use Rattle.squall_protocol.specs.Chunks.{ChunkValue}
use Rattle.squall_part.specs.declared.giving.GiveFault.{GiveFault}
use Rattle.squall_part.specs.declared.loading.Load.{Load}
use Rattle.squall_part.specs.declared.loading.LoadFault.{LoadFault}
use Rattle.squall_part.specs.declared.finishing.FinishFault.{FinishFault}
use Rattle.squall_part.specs.declared.finishing.FinishFault.TheVariants.{NotOpen, NotAll, NothingDue, NoMemory}
use Rattle.squall_part.specs.Parts.{PartValue, IsPart, closed_by, given_by, loaded_by}
use Rattle.squall_part.specs.Giving.{IsGiven, IsGivenAt, after_close}
use Rattle.squall_part.specs.Loading.{IsFinished}
use Rattle.squall_nodes.specs.Systems.{SystemValue, put_at, with_part}
use Rattle.squall_nodes.specs.Systems.Happens.{closes, finishes, part_hears}
use Rattle.squall_nodes.proofs.Systems.{put_some}
use Rattle.squall_store.specs.declared.store.Asked.{Asked}
use Rattle.squall_store.specs.Stores.{IsAsked, IsAnswered, NewRowsAre, OthersStay}
use Rattle.squall_store.specs.Systems.{StoresValue, StoreCall, after_command, after_gift, with_store, with_partition, MovesNoKey, done_by, IsStoreIn, IsCalledIn, HasCopies}
use Rattle.squall_store.specs.Systems.StoreCall.{asks, gives, gives_at, loads, others}
use Rattle.squall_store.proofs.Acts.{alike}

-- ---- where the store stands then

part_put : (p : ℕ) (b : PartValue) (parts : ℕ → Option PartValue) → put_at p b parts p ≡ Some b
part_put p b parts = cond-true (p == p) (Some b) (parts p) (eq-eqb p p refl)

row_put : {Row : Type 0} (p : ℕ) (next : ℕ → Row) (rows : ℕ → ℕ → Row) (k : ℕ) → (if p == p then next k else rows p k) ≡ next k
row_put p next rows k = cond-true (p == p) (next k) (rows p k) (eq-eqb p p refl)

-- ---- commands

pub asked : {Row Command Reply E : Type 0} (run : Command → Row → Row × Reply) (r : Result (Asked Reply) E) (k after : ℕ) (command : Command) (a b : PartValue) (rows next : ℕ → Row)
    → k < top → b ≡ a → IfOk r (IsAsked run a k after command (rows k) (next k)) → ((j : ℕ) → j ≢ k → next j ≡ rows j)
    → IfOk r (λ x. (first : Change) (s : StoresValue Row) (p : ℕ) → IsStoreIn s p a rows → IsCalledIn run first s (done_by k command x) (after_command s p next) p b next)
asked run (Ok x) k after command a b rows next key same h stay = λ first s p is. (
  asks p k after command a next x is.part key (subst (λ row. IsAsked run a k after command row (next k) x) (sym (is.has_rows k)) h) (λ j apart. stay j apart ∙ sym (is.has_rows j)),
  record { part = is.part ∙ ap Some (sym same); has_rows = row_put p next s.rows },
)
asked run (Err e) k after command a b rows next key same h stay = tt

pub not_asked : {Row A E : Type 0} (r : Result A E) (k : ℕ) (a b : PartValue) (rows next : ℕ → Row) → b ≡ a → OnErr r (next k ≡ rows k) → ((j : ℕ) → j ≢ k → next j ≡ rows j)
    → OnErr r ((s : StoresValue Row) (p : ℕ) → IsStoreIn s p a rows → IsStoreIn s p b next)
not_asked (Ok x) k a b rows next same h stay = tt
not_asked (Err e) k a b rows next same h stay = λ s p is. record { part = is.part ∙ ap Some (sym same); has_rows = λ j. is.has_rows j ∙ sym (alike k rows next h stay j) }

-- ---- gifts

pub given : {Row Command Reply D : Type 0} (run : Command → Row → Row × Reply) (row_of : D → ℕ → Row) (most : ℕ) (a b : PartValue) (before after : D) (r : Result ChunkValue GiveFault)
    → after ≡ before → IsGiven a most r b → IsPart b
    → (first : Change) (s : StoresValue Row) (p : ℕ) → IsStoreIn s p a (row_of before) → IsCalledIn run first s [] (after_gift s p b r) p b (row_of after)
given run row_of most a b before after r same h part first s p is =
    (gives p most a b r is.part h part, record { part = part_put p b s.nodes.parts; has_rows = λ k. is.has_rows k ∙ ap (λ d. row_of d k) (sym same) })

pub given_at : {Row Command Reply D : Type 0} (run : Command → Row → Row × Reply) (row_of : D → ℕ → Row) (k : ℕ) (a b : PartValue) (before after : D) (r : Result ChunkValue GiveFault)
    → after ≡ before → IsGivenAt a k r b → IsPart b
    → (first : Change) (s : StoresValue Row) (p : ℕ) → IsStoreIn s p a (row_of before) → IsCalledIn run first s [] (after_gift s p b r) p b (row_of after)
given_at run row_of k a b before after r same h part first s p is =
    (gives_at p k a b r is.part h part, record { part = part_put p b s.nodes.parts; has_rows = λ k. is.has_rows k ∙ ap (λ d. row_of d k) (sym same) })

-- ---- copies

pub copied : {Row Batch E : Type 0} (r : Result Batch E) (of : Batch → ℕ → Row) (x : ChunkValue) (rows : ℕ → Row) → IfOk r (λ batch. (k : ℕ) → span_has x.span k ≡ true → of batch k ≡ rows k)
    → IfOk r (λ batch. (s : StoresValue Row) (i : ℕ) → HasCopies s i x rows → HasCopies s i x (of batch))
copied (Ok batch) of x rows h = λ s i copies k key inside. h k inside ∙ copies k key inside
copied (Err e) of x rows h = tt

-- ---- loads

pub loaded : {Row Command Reply : Type 0} (run : Command → Row → Row × Reply) (x : ChunkValue) (a b : PartValue) (rows next batch : ℕ → Row) (r : Result Load LoadFault)
    → IsAnswered a x r b → OnOk r (NewRowsAre batch a x next) → OthersStay a x rows next → IsPart b
    → (first : Change) (s : StoresValue Row) (i : ℕ) → IsStoreIn s x.dest a rows → slice_get s.nodes.chunks i ≡ Some x → HasCopies s i x batch
    → IsCalledIn run first s [] (with_store s x.dest b next) x.dest b next
loaded run x a b rows next batch r h new stay part first s i is chunk copies = (
  loads i x a b r next batch chunk is.part copies h new (λ k old. stay k old ∙ sym (is.has_rows k)) part,
  record { part = part_put x.dest b s.nodes.parts; has_rows = row_put x.dest next s.rows },
)

-- ---- calls that leave rows alone

-- a partition that holds the same keys moves none
same_keys : (s : SystemValue) (p : ℕ) (a b : PartValue) → s.parts p ≡ Some a → b.held ≡ a.held → MovesNoKey s (with_part s p b s.chunks)
same_keys s p a b there same = record { chunks = refl; held = held }
  where
    held : (q k : ℕ) (c : PartValue) → put_at p b s.parts q ≡ Some c → has c.held k ≡ true → (d : PartValue) × (s.parts q ≡ Some d) × (has d.held k ≡ true)
    held q k c here holds = ⊎_elim
        (λ (own : (q ≡ p) × (b ≡ c)). (a, ap s.parts own.0 ∙ there, subst (λ keys. has keys k ≡ true) same (subst (λ (d : PartValue). has d.held k ≡ true) (sym own.1) holds)))
        (λ (other : ((q == p) ≡ false) × (s.parts q ≡ Some c)). (c, other.1, holds))
        (put_some p b s.parts q c here)

held_after : (a b : PartValue) (sub : ℕ) (r : Result (ReportKind PlanPair) FinishFault) → IsFinished a sub r b → b.held ≡ a.held
held_after a b sub (Ok report) h = ap (λ (v : PartValue). v.held) h.4
held_after a b sub (Err NotOpen) h = ap (λ (v : PartValue). v.held) h.1
held_after a b sub (Err (NotAll s)) h = ap (λ (v : PartValue). v.held) h.2
held_after a b sub (Err NothingDue) h = ap (λ (v : PartValue). v.held) h.2
held_after a b sub (Err NoMemory) h = ap (λ (v : PartValue). v.held) h.1

pub finished : {Row Command Reply D : Type 0} (run : Command → Row → Row × Reply) (row_of : D → ℕ → Row) (sub : ℕ) (a b : PartValue) (before after : D) (r : Result (ReportKind PlanPair) FinishFault)
    → after ≡ before → IsFinished a sub r b → IsPart b
    → (first : Change) (s : StoresValue Row) (p : ℕ) → IsStoreIn s p a (row_of before) → IsCalledIn run first s [] (with_partition s p b) p b (row_of after)
finished run row_of sub a b before after r same h part first s p is = (
  others (with_part s.nodes p b s.nodes.chunks) (finishes p sub a b r is.part h part) (same_keys s.nodes p a b is.part (held_after a b sub r h)),
  record { part = part_put p b s.nodes.parts; has_rows = λ k. is.has_rows k ∙ ap (λ d. row_of d k) (sym same) },
)

pub closed : {Row Command Reply D : Type 0} (run : Command → Row → Row × Reply) (row_of : D → ℕ → Row) (a b : PartValue) (before after : D)
    → after ≡ before → b ≡ after_close a → IsPart b
    → (first : Change) (s : StoresValue Row) (p : ℕ) → IsStoreIn s p a (row_of before) → IsCalledIn run first s [] (with_partition s p b) p b (row_of after)
closed run row_of a b before after same is_closed part first s p is = (
  subst (λ c. StoreCall run first s [] (with_partition s p c)) (sym is_closed)
      (others (with_part s.nodes p (after_close a) s.nodes.chunks) (closes p a is.part (subst IsPart is_closed part)) (same_keys s.nodes p a (after_close a) is.part refl)),
  record { part = part_put p b s.nodes.parts; has_rows = λ k. is.has_rows k ∙ ap (λ d. row_of d k) (sym same) },
)

-- what holds anyhow holds after an answer
pub anyhow : {A E : Type 0} {P : Type 0} (r : Result A E) → P → OnOk r P
anyhow (Ok x) h = h
anyhow (Err e) h = tt

pub absorbed : {Row Command Reply D A E : Type 0} (run : Command → Row → Row × Reply) (row_of : D → ℕ → Row) (r : Result A E) (a b : PartValue) (before after : D) (said : BoardValue)
    → after ≡ before → OnOk r (TakesBoard a.board said b.board) → b ≡ record a { board = b.board; logs = b.logs } → ((n : ℕ) → closed_by b n ≡ closed_by a n) → ((n : ℕ) → given_by b n ≡ given_by a n) → ((n : ℕ) → loaded_by b n ≡ loaded_by a n) → OnOk r (IsPart b)
    → OnOk r ((first : Change) (s : StoresValue Row) (p i : ℕ) → IsStoreIn s p a (row_of before) → slice_get s.nodes.messages i ≡ Some said
    → IsCalledIn run first s [] (with_partition s p b) p b (row_of after))
absorbed run row_of (Ok x) a b before after said same takes kept closed given loaded part = λ first s p i is message.
    let held : b.held ≡ a.held = ap (λ (v : PartValue). v.held) kept in (
      others (with_part s.nodes p b s.nodes.chunks) (part_hears p i a b said is.part message (record {
        board = takes.joined;
        id = ap (λ (v : PartValue). v.id) kept;
        first = ap (λ (v : PartValue). v.first) kept;
        held = held;
        closed = closed;
        given = given;
        loaded = loaded;
      }) part) (same_keys s.nodes p a b is.part held),
      record { part = part_put p b s.nodes.parts; has_rows = λ k. is.has_rows k ∙ ap (λ d. row_of d k) (sym same) },
    )
absorbed run row_of (Err e) a b before after said same takes kept closed given loaded part = tt
