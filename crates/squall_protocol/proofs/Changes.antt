-- What a step changes: one of few changes, each of which keeps what holds.
use Rattle.std.proofs.Common.{◌≡◌, ◌≢◌, ℕ, ◌+◌, ◌<◌, ◌≤◌, not, true, false, List, [], ◌∷◌, ◌++◌, refl, sym, ap, ap₂, ◌∙◌, subst, arith, le_refl}
use Rattle.std.specs.Prelude.{Some, nat_le, nat_lt}
use Rattle.std.specs.List.{slice_get}
use Rattle.std.proofs.lemmas.Bool.{both_ways, and_parts, and_from, not_from_false, true_from_ne_false, leb-true, ltb-true}
use Rattle.squall_span.specs.Spans.{Interval, interval, span_has}
use Rattle.squall_span.specs.SpanLaws.{inside}
use Rattle.squall_plan.specs.declared.range.PlanRange.{PlanRange}
use Rattle.squall_plan.specs.Ranges.{owner_of}
use Rattle.squall_course.specs.Change.{Change}
use Rattle.squall_course.specs.Subplans.{sub_of}
use Rattle.squall_course.specs.Moves.{is_incoming}
use Rattle.squall_report.specs.Cells.{place_at}
use Rattle.squall_report.specs.Queries.{Queries, done_queries}
use Rattle.squall_protocol.specs.Chunks.{ChunkValue}
use Rattle.squall_protocol.specs.Known.{last_number}
use Rattle.squall_protocol.specs.Firsts.{AreFirst}
use Rattle.squall_protocol.specs.declared.event.Node.{Node}
use Rattle.squall_protocol.specs.declared.event.Node.TheVariants.{Part}
use Rattle.squall_protocol.specs.Worlds.{WorldValue, course_at}
use Rattle.squall_protocol.specs.Knowledge.{part_in, IsCurrent, goes_out, is_left, comes_in, is_missing}
use Rattle.squall_protocol.specs.Steps.{IsPlan, NoneWanting, after_told, after_open, after_begin, IsWhereLeft, after_close, IsGift, after_give, IsArriving, MayLoad, after_load, IsOpenAt}
use Rattle.squall_protocol.proofs.Courses.{count_of, is_moves, incoming_is}
use Rattle.squall_protocol.proofs.Kept.{Hears, IsNewest, TrueFacts, Kept}
use Rattle.squall_protocol.proofs.Later.{Later, later_trans, later_by}
use Rattle.squall_protocol.proofs.Known.{KnownCourse, known_course, NewestCourse, newest_course}
use Rattle.squall_protocol.proofs.Says.{done_true}
use Rattle.squall_protocol.proofs.Give.{IsLeaving, later_give, keeps_give}
use Rattle.squall_protocol.proofs.Load.{later_load, keeps_load}
use Rattle.squall_protocol.proofs.Tell.{keeps_told, keeps_sent}
use Rattle.squall_protocol.proofs.Open.{all_done, later_open, keeps_open}
use Rattle.squall_protocol.proofs.Close.{later_close, keeps_close}
use Rattle.squall_protocol.proofs.Begin.{begun_on, later_begun, keeps_begin}

-- the message is on its way
abbrev pub after_send : WorldValue → Queries → WorldValue
after_send w message = record w { messages = w.messages ++ message ∷ [] }

-- what may become of a world at a step
pub data WorldChange (w : WorldValue) : WorldValue → Type 0 where
  stays : WorldChange w w
  opens : NoneWanting w → w.opened w.last ≢ count_of w w.last → WorldChange w (after_open w)
  begins : (old new : List PlanRange) → w.last < last_number → IsPlan old → IsPlan new → IsWhereLeft w old → WorldChange w (after_begin w old new)
  closes : (n p : ℕ) → WorldChange w (after_close w n p)
  gives : (x : ChunkValue) (first : ℕ) → IsNewest (w.facts (Part x.source)) x.number → (w.facts (Part x.source)).opened x.number ≡ x.sub + 1 → w.closed x.number x.source ≡ false → span_has x.span first ≡ true
      → ((k : ℕ) → span_has x.span k ≡ true → IsLeaving w x k) → WorldChange w (after_give w x)
  loads : (i : ℕ) (x : ChunkValue) → slice_get w.chunks i ≡ Some x → Hears (w.facts (Part x.dest)) x.number → WorldChange w (after_load w x)
  tells : (node : Node) (more : Queries) → TrueFacts w more → WorldChange w (after_told w node more)
  sends : (message : Queries) → TrueFacts w message → WorldChange w (after_send w message)

-- ---- what follows a change

pub later_change : (w v : WorldValue) → WorldChange w v → Later w v
later_change w _ stays = later_by w w refl refl refl (λ n. le_refl (w.opened n)) refl refl
later_change w _ (opens none more) = later_open w
later_change w _ (begins old new number is_old is_new where_left) =
    later_trans w (begun_on w old new) (after_begin w old new) (later_begun w old new) (later_by (begun_on w old new) (after_begin w old new) refl refl refl (λ n. le_refl ((begun_on w old new).opened n)) refl refl)
later_change w _ (closes n p) = later_close w n p
later_change w _ (gives x first newest opened still some out) = later_give w x
later_change w _ (loads i x there hears) = later_load w x
later_change w _ (tells node more true_more) = later_by w (after_told w node more) refl refl refl (λ n. le_refl (w.opened n)) refl refl
later_change w _ (sends message is_true) = later_by w (after_send w message) refl refl refl (λ n. le_refl (w.opened n)) refl refl

pub keeps_change : (w v : WorldValue) → Kept w → WorldChange w v → Kept v
keeps_change w _ kept stays = kept
keeps_change w _ kept (opens none more) = keeps_open w kept (all_done w none) more
keeps_change w _ kept (begins old new number is_old is_new where_left) = keeps_begin w old new number is_old is_new kept where_left
keeps_change w _ kept (closes n p) = keeps_close w n p kept
keeps_change w _ kept (gives x first newest opened still some out) = keeps_give w x first kept newest opened still some out
keeps_change w _ kept (loads i x there hears) = keeps_load w i x kept there hears
keeps_change w _ kept (tells node more true_more) = keeps_told w node more kept true_more
keeps_change w _ kept (sends message is_true) = keeps_sent w message is_true kept

-- ---- a gift

pub in_span : (s : Interval) (k : ℕ) → span_has s k ≡ true → (s.lo ≤ k) × (k < s.hi)
in_span s k has = let b = and_parts (nat_le s.lo k) (nat_lt k s.hi) has in (leb-true s.lo k b.0, ltb-true k s.hi b.1)

-- what a course says of a key of a chunk that it carries
abbrev FitsCourse : ChunkValue → ℕ → Change → Type 0
FitsCourse x k c = (owner_of c.old k ≢ owner_of c.new k) × (owner_of c.old k ≡ x.source) × (owner_of c.new k ≡ x.dest) × (sub_of c.old c.new k ≡ x.sub)

-- a gift of keys that are held is of the newest course of the world's
pub gift_change : (w : WorldValue) (p : ℕ) (x : ChunkValue) (c : Change) (s first : ℕ) → Kept w → IsCurrent (part_in w p) c s → IsGift (part_in w p) c s x → span_has x.span first ≡ true
    → ((k : ℕ) → span_has x.span k ≡ true → w.held p k ≡ true) → WorldChange w (after_give w x)
gift_change w p x c s first kept current gift some held =
    gives x first
    (subst (λ (y : ℕ × ℕ). IsNewest (w.facts (Part y.0)) y.1) (ap₂ pair (sym gift.source) (sym gift.number)) known.newest)
    (subst (λ (y : ℕ × ℕ). (w.facts (Part y.0)).opened y.1 ≡ x.sub + 1) (ap₂ pair (sym gift.source) (sym gift.number)) (current.1 ∙ ap (λ t. t + 1) (sym gift.sub_plan)))
    (subst (λ (y : ℕ × ℕ). w.closed y.1 y.0 ≡ false) (ap₂ pair (sym gift.source) (sym gift.number)) current.2)
    some leaving
  where
    pair : ℕ → ℕ → ℕ × ℕ
    pair a b = (a, b)

    known : NewestCourse w (w.facts (Part p)) c
    known = newest_course w (w.facts (Part p)) c kept.first (kept.facts (Part p)) current.0

    leaving : (k : ℕ) → span_has x.span k ≡ true → IsLeaving w x k
    leaving k has =
        let fits : FitsCourse x k (course_at w x.number) = subst (λ d. FitsCourse x k d) (known.same ∙ ap (course_at w) (sym gift.number))
        (is_moves c.old c.new k (gift.carried.moving k has), gift.carried.source k has, gift.carried.dest k has, gift.carried.sub_plan k has) in
        record { moves = fits.0; source = fits.1; dest = fits.2; sub = fits.3; held = subst (λ q. w.held q k ≡ true) (sym gift.source) (held k has) }

-- the first keys that are left are held
pub first_change : (w : WorldValue) (p most : ℕ) (x : ChunkValue) (c : Change) (s : ℕ) → Kept w → IsCurrent (part_in w p) c s → AreFirst (is_left (part_in w p) c s) most x.span → IsGift (part_in w p) c s x → WorldChange w (after_give w x)
first_change w p most x c s kept current keys gift =
    gift_change w p x c s x.span.lo kept current gift (inside x.span x.span.lo (le_refl x.span.lo) keys.some)
    (λ k has. let b = in_span x.span k has in (and_parts (goes_out (part_in w p) c s k) (w.held p k) (keys.keys k b.0 b.1)).1)

-- so is the one key
pub one_change : (w : WorldValue) (p k : ℕ) (x : ChunkValue) (c : Change) (s : ℕ) → Kept w → IsCurrent (part_in w p) c s → w.held p k ≡ true → x.span ≡ interval k (k + 1) → IsGift (part_in w p) c s x → WorldChange w (after_give w x)
one_change w p k x c s kept current held span gift =
    gift_change w p x c s k kept current gift (subst (λ (t : Interval). span_has t k ≡ true) (sym span) (inside (interval k (k + 1)) k (le_refl k) (omega arith)))
    (λ j has. subst (λ i. w.held p i ≡ true) (same j (in_span (interval k (k + 1)) j (subst (λ (t : Interval). span_has t j ≡ true) span has))) held)
  where
    same : (j : ℕ) → (k ≤ j) × (j < k + 1) → k ≡ j
    same j b = omega (arith, b.0, b.1)

-- ---- a load, and a completion

pub load_change : (w : WorldValue) (i : ℕ) (x : ChunkValue) → Kept w → IsArriving w i x → MayLoad w x → WorldChange w (after_load w x)
load_change w i x kept arriving may =
    let known : KnownCourse w (w.facts (Part x.dest)) x.number may.course = known_course w (w.facts (Part x.dest)) x.number may.course kept.first (kept.facts (Part x.dest)) may.known in
    loads i x arriving.chunk known.hears

pub finish_change : (w : WorldValue) (p s : ℕ) (c : Change) → Kept w → IsOpenAt w p s c → ((k : ℕ) → is_missing (part_in w p) c s k ≡ false) → WorldChange w (after_told w (Part p) (done_queries (place_at c.number s p)))
finish_change w p s c kept at none =
    let known : NewestCourse w (w.facts (Part p)) c = newest_course w (w.facts (Part p)) c kept.first (kept.facts (Part p)) at.0 in
    tells (Part p) (done_queries (place_at c.number s p)) (done_true w (place_at c.number s p) known.begun (λ k m dest sub.
    loaded k (subst (λ (d : Change). is_incoming d.old d.new s p k ≡ true) (sym known.same) (incoming_is (w.old c.number) (w.new c.number) s p k m sub dest))))
  where
    loaded : (k : ℕ) → comes_in (part_in w p) c s k ≡ true → w.loaded c.number p k ≡ true
    loaded k comes = true_from_ne_false (w.loaded c.number p k) (λ f.
        both_ways (is_missing (part_in w p) c s k) (none k) (and_from (comes_in (part_in w p) c s k) (not (w.loaded c.number p k)) comes (not_from_false (w.loaded c.number p k) f)))
