-- A table with other entries in place of some.
use Rattle.std.proofs.Common.{◌≡◌, ℕ, zero, suc, ◌-◌, ◌<◌, ◌≤◌, false, cond, List, [], ◌∷◌, length, get_or, refl, sym, ap, subst, ◌∙◌, arith}
use Rattle.std.proofs.lemmas.List.{get_or_default}
use Rattle.squall_key.specs.Keys.{top}
use Rattle.squall_span.specs.Spans.{Interval, has, IsCanonical, IsSet, EndsBy}
use Rattle.squall_span.specs.SpanLaws.{outside_below, has_below, has_ended}
use Rattle.squall_plan.specs.declared.range.PlanRange.{PlanRange}
use Rattle.squall_plan.specs.Ranges.{owner_of}
use Rattle.squall_plan.specs.Ranges.{IsCanonical as IsCanonicalTable}
use Rattle.squall_blocks.specs.Entries.{RiseFrom, last_from, replaced}
use Rattle.squall_table.specs.Legs.{Legs, Grows}
use Rattle.squall_table.specs.LegLaws.{canonical_legs}
use Rattle.squall_table.specs.LegEntries.{legs_from, entries_of}
use Rattle.squall_table.specs.Patching.{StartsFrom, IsReach, renewed}
use Rattle.squall_table.proofs.Entered.{legs_of_entries, legs_rise, legs_end, put}
use Rattle.squall_table.proofs.Patching.{end_by}

-- no key outside the bounds of a set
has_before : (a k : ℕ) (ss : List Interval) → StartsFrom a ss → IsCanonical ss → k < a → has ss k ≡ false
has_before a k [] s c lt = refl
has_before a k (x ∷ ss) s c lt = rw (outside_below x k (omega (arith, s))) (has_below x.hi k ss c.1 c.2 (omega (arith, s, c.0)))

pub ends_later : (b c : ℕ) (ss : List Interval) → b ≤ c → EndsBy b ss → EndsBy c ss
ends_later b c [] le e = tt
ends_later b c (x ∷ ss) le e = (omega (arith, e.0), ends_later b c ss le e.1)

pub ends_last : (ss : List Interval) (n : ℕ) (d : Interval) → IsCanonical ss → length ss ≡ suc n → EndsBy (get_or ss n d).hi ss
ends_last [] n d c e = tt
ends_last (x ∷ []) zero d c e = (omega arith, tt)
ends_last (x ∷ []) (suc n) d c e = absurd (omega arith)
ends_last (x ∷ y ∷ ys) zero d c e = absurd (omega arith)
ends_last (x ∷ y ∷ ys) (suc n) d c e = let rest = ends_last (y ∷ ys) n d c.2 (omega arith) in (omega (arith, rest.0, c.1, c.2.0), rest)

pub starts_sooner : (a b : ℕ) (ss : List Interval) → a ≤ b → StartsFrom b ss → StartsFrom a ss
starts_sooner a b [] le s = tt
starts_sooner a b (x ∷ ss) le s = omega (arith, s)

pub starts_first : (ss : List Interval) (d : Interval) (a : ℕ) → a ≤ (get_or ss 0 d).lo → StartsFrom a ss
starts_first [] d a le = tt
starts_first (x ∷ xs) d a le = le

pub spread : (ss : List Interval) (n : ℕ) (e : Interval) → IsCanonical ss → length ss ≡ suc n → (get_or ss 0 e).lo < (get_or ss n e).hi
spread [] n e c len = absurd (omega arith)
spread (x ∷ xs) n e c len = let last = ends_last (x ∷ xs) n e c len in omega (arith, c.0, last.0)

-- the first and the last bound of a set
pub record Placed (set : List Interval) (a b : ℕ) : Type 0 where
  pub canonical : IsCanonical set
  pub starts : StartsFrom a set
  pub ends : EndsBy b set
  pub less : a < b
  pub high : b ≤ top

pub placed : (set : List Interval) (a b : ℕ) (s e : Interval) → IsSet set → 0 < length set → s ≡ get_or set 0 s → e ≡ get_or set (length set - 1) e → a ≡ s.lo → b ≡ e.hi → Placed set a b
placed set a b s e is some se ee al bh =
    let n = length set - 1 in
    let len : length set ≡ suc n = omega arith in
    let low : a ≡ (get_or set 0 e).lo = al ∙ ap (λ (t : Interval). t.lo) (se ∙ get_or_default set 0 s e some) in
    let high : b ≡ (get_or set n e).hi = bh ∙ ap (λ (t : Interval). t.hi) ee in
    record {
      canonical = is.0;
      starts = starts_first set e a (omega (arith, low));
      ends = subst (λ t. EndsBy t set) (sym high) (ends_last set n e is.0 len);
      less = omega (arith, low, high, spread set n e is.0 len);
      high = omega (arith, high, end_by top set n e is.1 (omega arith));
    }

-- fresh entries for what goes when the keys of a set are renewed, and the legs with them in place
pub record Renews (h : ℕ → ℕ) (es fr : List (ℕ × ℕ)) (lo hi : ℕ) : Type 0 where
  pub rise : RiseFrom lo fr
  pub last : last_from lo fr ≡ hi
  pub legs : Legs h 0 top (legs_from 0 (replaced lo hi fr es))

pub renews : (r : ℕ → ℕ) (es fr : List (ℕ × ℕ)) (set : List Interval) (a b lo hi : ℕ) (fresh : List PlanRange) → IsCanonicalTable (legs_from 0 es) → Placed set a b → IsReach es a b lo hi
    → Grows (renewed set r (owner_of (legs_from 0 es))) lo hi [] fresh → fr ≡ entries_of fresh → Renews (renewed set r (owner_of (legs_from 0 es))) es fr lo hi
renews r es fr set a b lo hi fresh canonical p k grows is =
    let g : ℕ → ℕ = owner_of (legs_from 0 es) in
    let h : ℕ → ℕ = renewed set r g in
    let made : Legs h lo hi fresh = grows h lo (λ j u v. refl) refl in
    let there : legs_from lo fr ≡ fresh = ap (legs_from lo) is ∙ legs_of_entries h lo hi fresh made in
    let entered : Legs h lo hi (legs_from lo fr) = subst (Legs h lo hi) (sym there) made in
    let outside : (j : ℕ) → has set j ≡ false → h j ≡ g j = λ j out. ap (λ t. cond t (r j) (g j)) out in
    record {
      rise = legs_rise h lo hi fr entered;
      last = legs_end h lo hi fr entered;
      legs = put g h es fr lo hi (canonical_legs (legs_from 0 es) canonical) k.begins k.ends entered
          (λ j lt. outside j (has_before a j set p.starts p.canonical (omega (arith, lt, k.low))))
          (λ some lt. outside lo (has_before a lo set p.starts p.canonical (k.before (omega (arith, some, k.low)))))
          (λ j ge lt. outside j (has_ended b j set p.ends (omega (arith, ge, k.high))))
          (λ j next lt. outside j (has_ended b j set p.ends (let more = k.after (omega (arith, k.high, lt)) in omega (arith, next, more))));
    }
