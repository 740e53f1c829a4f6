-- A log that is read record by record, and one that was cut off.
use Rattle.std.proofs.Common.{◌≡◌, ℕ, ◌<◌, ◌≤◌, List, [], ◌∷◌, ◌++◌, length, take, map, refl, sym, ap, subst, ◌∙◌, append_assoc, arith, length-append, ◌-◌}
use Rattle.std.specs.List.{AllByRecursion}
use Rattle.std.proofs.lemmas.List.{append-nil}
use Rattle.squall_log.specs.declared.entry.End.{End}
use Rattle.squall_log.specs.Entries.{payload_limit, entry, entries, EndsIn, IsRead}
use Rattle.squall_log.specs.EntryLaws.{entry_length, a_cut_log}
use Rattle.squall_part.specs.Parts.{PartValue, IsPart}
use Rattle.squall_replay.specs.Calls.{IsSamePart}
use Rattle.squall_store_log.specs.declared.record.Record.{Record}
use Rattle.squall_store_log.specs.Records.{spell_record}
use Rattle.squall_store_log.specs.RecordLaws.{one_record, all-push}
use Rattle.squall_store_log.specs.Steps.{Rows, first_store, Comes, IsRecord, spell_log, Wrote, IsStep, IsOpened, IsAfterCut}
use Rattle.squall_store_log.proofs.Alike.{alike_itself, comes_on, comes_by, OnePartition, AreSame, same_comes}

-- ---- record by record

pub spell_log-append : (xs ys : List Record) → spell_log (xs ++ ys) ≡ spell_log xs ++ spell_log ys
spell_log-append [] ys = refl
spell_log-append (x ∷ xs) ys = ap (λ (z : List ℕ). entry (spell_record x) ++ z) (spell_log-append xs ys) ∙ sym (append_assoc (entry (spell_record x)) (spell_log xs) (spell_log ys))

pub nothing_read : (first : Rows) (bytes : List ℕ) → IsOpened first bytes first bytes
nothing_read first bytes = record { records = []; each = tt; read = refl; comes = alike_itself first }

pub one_more_read : (first s t : Rows) (bytes rest after : List ℕ) → IsOpened first bytes s rest → IsStep s rest t after → IsOpened first bytes t after
one_more_read first s t bytes rest after o p = record {
  records = o.records ++ (p.record_read ∷ []);
  each = all-push IsRecord o.records p.record_read o.each p.is;
  read = o.read ∙ ap (λ (z : List ℕ). spell_log o.records ++ z) p.read ∙ sym (append_assoc (spell_log o.records) (entry (spell_record p.record_read)) after)
      ∙ ap (λ (z : List ℕ). (spell_log o.records ++ z) ++ after) (sym (append-nil (entry (spell_record p.record_read))))
      ∙ ap (λ (z : List ℕ). z ++ after) (sym (spell_log-append o.records (p.record_read ∷ [])));
  comes = comes_on first s t o.records p.record_read p.answer o.comes p.made;
}

pub gets_shorter : (rest after payload : List ℕ) → rest ≡ entry payload ++ after → length after < length rest
gets_shorter rest after payload e = omega (arith, ap length e, entry_length payload, length-append (entry payload) after)

-- ---- a cut

short_payloads : (records : List Record) → AllByRecursion IsRecord records → AllByRecursion (λ p. length p ≤ payload_limit) (map spell_record records)
short_payloads [] each = tt
short_payloads (r ∷ records) each = (each.0.short, short_payloads records each.1)

all_later : {X : Type 0} (P : X → Type 0) (xs ys : List X) → AllByRecursion P (xs ++ ys) → AllByRecursion P ys
all_later P [] ys all = all
all_later P (x ∷ xs) ys all = all_later P xs ys all.1

-- the records whose payloads come first are the first records
first_records : (all done : List Record) (later : List (List ℕ)) → AllByRecursion IsRecord all → AllByRecursion IsRecord done
    → map spell_record all ≡ map spell_record done ++ later → (more : List Record) × (all ≡ done ++ more) × (later ≡ map spell_record more)
first_records all [] later each too e = (all, refl, sym e)
first_records [] (d ∷ done) later each too e = absurd cc
first_records (r ∷ all) (d ∷ done) later each too e =
    let payloads : spell_record r ≡ spell_record d = cc in
    let others : map spell_record all ≡ map spell_record done ++ later = cc in
    let same : r ≡ d = one_record r d each.0.fits too.0.fits payloads in
    let rest = first_records all done later each.1 too.1 others in
    (rest.0, ap (λ (z : Record). z ∷ all) same ∙ ap (λ (z : List Record). d ∷ z) rest.1, rest.2)

module _ (law : OnePartition) (first last store : Rows) (log bytes rest : List ℕ) (n size : ℕ) (end : End) where
  pub after_cut : IsPart first.part → IsSamePart first.part first.part → Wrote first log last → bytes ≡ take n log → IsOpened first bytes store rest → EndsIn end rest
      → size ≡ length bytes - length rest → IsAfterCut first log last n size end store
  after_cut is itself wrote cut opened ends count =
      let payloads : List (List ℕ) = map spell_record wrote.records in
      let read_all : bytes ≡ take n (entries payloads) = cut ∙ ap (take n) wrote.spelled in
      let read : IsRead (take n (entries payloads)) (map spell_record opened.records) end rest = record {
        short = short_payloads opened.records opened.each;
        whole = sym read_all ∙ opened.read;
        ends = ends;
      } in
      let c = a_cut_log payloads n (map spell_record opened.records) end rest (short_payloads wrote.records wrote.each) read in
      let more = first_records wrote.records opened.records c.later wrote.each opened.each c.parts in
      let there = comes_by first last opened.records more.0 (subst (λ (z : List Record). Comes first z last) more.1 wrote.comes) in
      let whole : size ≡ length (spell_log opened.records) = omega (arith, count, ap length opened.read, length-append (spell_log opened.records) rest) in
      let first_same : AreSame first first = record { same = record { part = itself; rows = λ k h. refl }; is = is; too = is } in
      record {
        done = opened.records;
        later = more.0;
        each = subst (AllByRecursion IsRecord) more.1 wrote.each;
        all = wrote.spelled ∙ ap spell_log more.1;
        size_is = whole;
        within = omega (arith, whole, c.within);
        next = λ r rs e. omega (arith, whole, c.next (spell_record r) (map spell_record rs) (more.2 ∙ ap (map spell_record) e));
        undamaged = c.undamaged;
        there = there.0;
        before = there.1;
        after = there.2;
        same = (same_comes law first first there.0 store opened.records first_same there.1 opened.comes).same;
      }

pub same_itself : (p : PartValue) → IsSamePart p p
same_itself p = record { id = refl; first = refl; board = refl; held = refl; given = λ n. refl; loaded = λ n. refl; closed = λ n. refl }

pub is_first : (s : Rows) (p : PartValue) → s.part ≡ p → s.rows ≡ [] → s ≡ first_store p
is_first s p e f = λ i. record { part = e i; rows = f i }
