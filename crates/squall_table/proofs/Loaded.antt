-- The legs about a load all of whose keys go to one partition.
use Rattle.std.proofs.Common.{◌≡◌, ◌≢◌, ℕ, ◌+◌, ◌-◌, ◌<◌, ◌≤◌, Bool, true, false, cond, nat_lt, List, [], ◌∷◌, ◌||◌, Some, None, length, get_or, drop, refl, sym, ap, subst, ◌∙◌, arith, inl, inr}
use Rattle.std.specs.Prelude.{slice_get}
use Rattle.std.proofs.lemmas.Bool.{cases_lt, true≢false}
use Rattle.std.proofs.lemmas.List.{drop_more}
use Rattle.std.proofs.lemmas.Option.{same_Some, none-some}
use Rattle.squall_key.specs.Keys.{top}
use Rattle.squall_span.specs.Spans.{Interval, span_has, IsSet}
use Rattle.squall_span.specs.SpanLaws as spans
use Rattle.squall_plan.specs.declared.range.PlanRange.{PlanRange}
use Rattle.squall_plan.specs.Ranges.{owner_of}
use Rattle.squall_plan.specs.Ranges.{IsCanonical as IsCanonicalTable}
use Rattle.squall_course.specs.Change.{Change}
use Rattle.squall_course.specs.declared.moving.Move.{Move}
use Rattle.squall_course.specs.Moves.{moves_of}
use Rattle.squall_board.specs.MovesRoute.{route_by_moves}
use Rattle.squall_blocks.specs.Entries.{last_from, beyond, up_to, replaced}
use Rattle.squall_blocks.specs.EntriesLaws.{is_below, not_below}
use Rattle.squall_table.specs.declared.routes.Heard.TheVariants.{All}
use Rattle.squall_table.specs.LegEntries.{legs_from}
use Rattle.squall_table.specs.Legs.{Legs, Grows, FirstMove, said}
use Rattle.squall_table.specs.LegLaws.{legs_as, canonical_legs}
use Rattle.squall_table.specs.Patching.{ComesTo, IsBeside, IsRenewed, about, renewed}
use Rattle.squall_table.proofs.Entered.{found, entries_of_legs}
use Rattle.squall_table.proofs.Moving.{Said, route, piece, first_routes, inside}
use Rattle.squall_table.proofs.Patched.{placed, renews}
use Rattle.squall_table.proofs.Walked.{reach_some, reach_all}

-- ---- the move that brings a load

-- the bounds of a span about a key that it has
within : (s : Interval) (k : ℕ) → span_has s k ≡ true → (s.lo ≤ k) × (k < s.hi)
within s k in_it = elim (cases_lt k s.lo) [
  | inl less ↦ absurd (true≢false (sym in_it ∙ spans.outside_below s k less))
  | inr low ↦ elim (cases_lt k s.hi) [
    | inl high ↦ (low, high)
    | inr more ↦ absurd (true≢false (sym in_it ∙ spans.outside_above s k more))
  ]
]

-- the keys of a span that lies in one move go to its destination once all have come
pub comes_to : (ms : List Move) (s : Interval) (i dest : ℕ) (m : Move) → FirstMove ms s.lo i → i < length ms → m ≡ get_or ms i m → m.span.lo ≤ s.lo → s.hi ≤ m.span.hi → dest ≡ m.dest → ComesTo ms s dest
comes_to ms s i dest m first lt is low high at number old k in_it =
    let k_in = within s k in_it in
    let cs : Said = (number, said All) in
    let rest : drop i ms ≡ m ∷ drop (i + 1) ms = drop_more ms i m lt ∙ ap (λ y. y ∷ drop (i + 1) ms) (sym is) in
    let here : route old (m ∷ drop (i + 1) ms) cs k ≡ m.dest =
    ap (λ b. cond b (piece cs m k) (route old (drop (i + 1) ms) cs k)) (inside m k (omega (arith, low, k_in.0)) (omega (arith, high, k_in.1))) in
    first_routes old ms cs s.lo i first k k_in.0 ∙ ap (λ l. route old l cs k) rest ∙ here ∙ sym at

-- ---- the legs at both ends of a span

beside_low : (es : List (ℕ × ℕ)) (s : Interval) (b lo : ℕ) (y : ℕ × ℕ) → IsCanonicalTable (legs_from 0 es) → s.lo < s.hi → s.hi ≤ top → b ≡ s.lo - 1 → lo ≡ last_from 0 (up_to b es) → Some y ≡ slice_get (beyond b es) 0
    → (k : ℕ) → lo ≤ k → k < s.lo → owner_of (legs_from 0 es) k ≡ y.1
beside_low es s b lo y canonical order high before is first k from below =
    let f = found (owner_of (legs_from 0 es)) 0 top b es (canonical_legs (legs_from 0 es) canonical) (omega arith) (omega (arith, before, order, high)) in
    let same : y ≡ f.first = same_Some y f.first (first ∙ ap (λ (l : List (ℕ × ℕ)). slice_get l 0) f.is) in
    f.routes k (omega (arith, from, is)) (omega (arith, f.above, below, before)) ∙ sym (ap (λ (x : ℕ × ℕ). x.1) same)

pub beside_some : (es : List (ℕ × ℕ)) (s : Interval) (b lo : ℕ) (y x : ℕ × ℕ) → IsCanonicalTable (legs_from 0 es) → s.lo < s.hi → s.hi ≤ top → b ≡ s.lo - 1 → lo ≡ last_from 0 (up_to b es) → Some y ≡ slice_get (beyond b es) 0 → Some x ≡ slice_get (beyond s.hi es) 0
    → IsBeside es s lo y.1 x.0 x.1
beside_some es s b lo y x canonical order high before is first next =
    let reach = reach_some es s.lo s.hi b lo x canonical order high before is next in
    record {
      reach = reach;
      below = beside_low es s b lo y canonical order high before is first;
      above = λ k from below.
          let less : s.hi < top = omega (arith, reach.within, from, below) in
          let f = found (owner_of (legs_from 0 es)) 0 top s.hi es (canonical_legs (legs_from 0 es) canonical) (omega arith) less in
          let same : x ≡ f.first = same_Some x f.first (next ∙ ap (λ (l : List (ℕ × ℕ)). slice_get l 0) f.is) in
          let end : x.0 ≡ f.first.0 = ap (λ (z : ℕ × ℕ). z.0) same in
          f.routes k (omega (arith, f.from, from)) (omega (arith, below, end)) ∙ sym (ap (λ (z : ℕ × ℕ). z.1) same);
    }

pub beside_all : (es : List (ℕ × ℕ)) (s : Interval) (b lo : ℕ) (y : ℕ × ℕ) → IsCanonicalTable (legs_from 0 es) → s.lo < s.hi → s.hi ≤ top → b ≡ s.lo - 1 → lo ≡ last_from 0 (up_to b es) → Some y ≡ slice_get (beyond b es) 0 → None ≡ slice_get (beyond s.hi es) 0
    → IsBeside es s lo y.1 top y.1
beside_all es s b lo y canonical order high before is first none = record {
  reach = reach_all es s.lo s.hi b lo canonical order high before is none;
  below = beside_low es s b lo y canonical order high before is first;
  above = λ k from below.
      let f = found (owner_of (legs_from 0 es)) 0 top s.hi es (canonical_legs (legs_from 0 es) canonical) (omega arith) (omega (arith, from, below)) in
      absurd (none-some f.first (none ∙ ap (λ (l : List (ℕ × ℕ)). slice_get l 0) f.is));
}

-- ---- the entries about a span

about_below : (p d q : ℕ) (s : Interval) (k : ℕ) → k < s.lo → about p d q s k ≡ p
about_below p d q s k lt = ap (λ b. cond b p (cond (nat_lt k s.hi) d q)) (is_below k s.lo lt)

about_inside : (p d q : ℕ) (s : Interval) (k : ℕ) → s.lo ≤ k → k < s.hi → about p d q s k ≡ d
about_inside p d q s k le lt = ap (λ b. cond b p (cond (nat_lt k s.hi) d q)) (not_below k s.lo le) ∙ ap (λ b. cond b d q) (is_below k s.hi lt)

about_above : (p d q : ℕ) (s : Interval) (k : ℕ) → s.lo < s.hi → s.hi ≤ k → about p d q s k ≡ q
about_above p d q s k order le = ap (λ b. cond b p (cond (nat_lt k s.hi) d q)) (not_below k s.lo (omega (arith, order, le))) ∙ ap (λ b. cond b d q) (not_below k s.hi le)

-- the leg of the span takes up the one below it, if both are of one partition
from_below : (p d q lo : ℕ) (s : Interval) (k : ℕ) → lo ≤ s.lo → (lo < s.lo → p ≡ d) → lo ≤ k → k < s.hi → about p d q s k ≡ d
from_below p d q lo s k low same from lt = elim (cases_lt k s.lo) [
  | inl less ↦ about_below p d q s k less ∙ same (omega (arith, from, less))
  | inr more ↦ about_inside p d q s k more lt
]

-- and likewise the one above it
to_above : (p d q hi : ℕ) (s : Interval) (k : ℕ) → s.lo < s.hi → (s.hi < hi → q ≡ d) → s.lo ≤ k → k < hi → about p d q s k ≡ d
to_above p d q hi s k order same from lt = elim (cases_lt k s.hi) [
  | inl less ↦ about_inside p d q s k from less
  | inr more ↦ about_above p d q s k order more ∙ same (omega (arith, more, lt))
]

pub with_both : (p d q lo hi : ℕ) (s : Interval) (es : List (ℕ × ℕ)) → lo < s.lo → s.lo < s.hi → s.hi < hi → p ≢ d → q ≢ d → es ≡ (s.lo, p) ∷ (s.hi, d) ∷ (hi, q) ∷ [] → Legs (about p d q s) lo hi (legs_from lo es)
with_both p d q lo hi s es low order high ne ne' is = subst (λ (l : List (ℕ × ℕ)). Legs (about p d q s) lo hi (legs_from lo l)) (sym is) (
  refl,
  low,
  (λ k a b. about_below p d q s k b),
  ne,
  (refl, order, (λ k a b. about_inside p d q s k a b), (λ e. ne' (sym e)), (refl, high, (λ k a b. about_above p d q s k order a), tt, refl)),
)

pub with_above : (p d q lo hi : ℕ) (s : Interval) (es : List (ℕ × ℕ)) → lo ≤ s.lo → s.lo < s.hi → s.hi < hi → (lo < s.lo → p ≡ d) → q ≢ d → es ≡ (s.hi, d) ∷ (hi, q) ∷ [] → Legs (about p d q s) lo hi (legs_from lo es)
with_above p d q lo hi s es low order high same ne is = subst (λ (l : List (ℕ × ℕ)). Legs (about p d q s) lo hi (legs_from lo l)) (sym is) (
  refl,
  omega (arith, low, order),
  (λ k a b. from_below p d q lo s k low same a b),
  (λ e. ne (sym e)),
  (refl, high, (λ k a b. about_above p d q s k order a), tt, refl),
)

pub with_below : (p d q lo hi : ℕ) (s : Interval) (es : List (ℕ × ℕ)) → lo < s.lo → s.lo < s.hi → s.hi ≤ hi → p ≢ d → (s.hi < hi → q ≡ d) → es ≡ (s.lo, p) ∷ (hi, d) ∷ [] → Legs (about p d q s) lo hi (legs_from lo es)
with_below p d q lo hi s es low order high ne same is = subst (λ (l : List (ℕ × ℕ)). Legs (about p d q s) lo hi (legs_from lo l)) (sym is) (
  refl,
  low,
  (λ k a b. about_below p d q s k b),
  ne,
  (refl, omega (arith, high, order), (λ k a b. to_above p d q hi s k order same a b), tt, refl),
)

pub with_none : (p d q lo hi : ℕ) (s : Interval) (es : List (ℕ × ℕ)) → lo ≤ s.lo → s.lo < s.hi → s.hi ≤ hi → (lo < s.lo → p ≡ d) → (s.hi < hi → q ≡ d) → es ≡ (hi, d) ∷ [] → Legs (about p d q s) lo hi (legs_from lo es)
with_none p d q lo hi s es low order high same same' is = subst (λ (l : List (ℕ × ℕ)). Legs (about p d q s) lo hi (legs_from lo l)) (sym is) (
  refl,
  omega (arith, low, order, high),
  all,
  tt,
  refl,
)
  where
    all : (k : ℕ) → lo ≤ k → k < hi → about p d q s k ≡ d
    all k a b = elim (cases_lt k s.lo) [
      | inl less ↦ from_below p d q lo s k low same a (omega (arith, less, order))
      | inr more ↦ to_above p d q hi s k order same' more b
    ]

-- ---- the table with them

grows_of : (g : ℕ → ℕ) (lo hi : ℕ) (new : List PlanRange) → Legs g lo hi new → Grows g lo hi [] new
grows_of g lo hi new l f from same e = subst (λ n. Legs f n hi new) (sym e) (legs_as g f lo hi new (λ k a b. same k a b) l)

pub load_renewed : (c : Change) (es fr new : List (ℕ × ℕ)) (s : Interval) (p d q lo hi : ℕ) → IsCanonicalTable (legs_from 0 es) → IsSet (s ∷ []) → ComesTo (moves_of c.old c.new) s d → IsBeside es s lo p hi q
    → Legs (about p d q s) lo hi (legs_from lo fr) → new ≡ replaced lo hi fr es → IsRenewed c (said All) (s ∷ []) (legs_from 0 es) (legs_from 0 new)
load_renewed c es fr new s p d q lo hi canonical set comes at legs is =
    let own : ℕ → ℕ = owner_of (legs_from 0 es) in
    let r : ℕ → ℕ = route_by_moves c.number c.old (moves_of c.old c.new) (said All) in
    let h : ℕ → ℕ = renewed (s ∷ []) r own in
    let order : s.lo < s.hi = set.0.0 in
    let chosen : (k : ℕ) (b : Bool) → span_has s k ≡ b → h k ≡ cond (b || false) (r k) (own k) = λ k b e. ap (λ t. cond (t || false) (r k) (own k)) e in
    let same : (k : ℕ) → lo ≤ k → k < hi → h k ≡ about p d q s k = λ k from below. elim (cases_lt k s.lo) [
      | inl less ↦ chosen k false (spans.outside_below s k less) ∙ at.below k from less ∙ sym (about_below p d q s k less)
      | inr low ↦ elim (cases_lt k s.hi) [
        | inl less ↦ chosen k true (spans.inside s k low less) ∙ comes c.number c.old k (spans.inside s k low less) ∙ sym (about_inside p d q s k low less)
        | inr high ↦ chosen k false (spans.outside_above s k high) ∙ at.above k high below ∙ sym (about_above p d q s k order high)
      ]
    ] in
    let legs' : Legs h lo hi (legs_from lo fr) = legs_as (about p d q s) h lo hi (legs_from lo fr) same legs in
    let made = renews r es fr (s ∷ []) s.lo s.hi lo hi (legs_from lo fr) canonical (placed (s ∷ []) s.lo s.hi s s set (omega arith) refl refl refl refl) at.reach (grows_of h lo hi (legs_from lo fr) legs') (sym (entries_of_legs lo fr)) in
    subst (λ (l : List (ℕ × ℕ)). Legs h 0 top (legs_from 0 l)) (sym is) made.legs
