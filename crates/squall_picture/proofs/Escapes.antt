-- Numbers, bounds and spans need no escapes in SVG.
use Rattle.std.specs.Prelude.{◌≡◌, ◌≢◌, ℕ, ◌<◌, ◌≤◌, ◌^◌, ◌==◌, List, [], ◌∷◌, ◌++◌, codes, Option, None, Some, IfSome, if◌then◌else◌, true, false, Bool, ◌||◌, refl}
use Rattle.std.specs.List.{AllByRecursion, list_any}
use Rattle.std.specs.Fmt.{decimal}
use Rattle.std.specs.Str.Parse.{AllDigits}
use Rattle.std.proofs.Common.{arith, ap, sym, ◌∙◌}
use Rattle.std.proofs.lemmas.Bool.{true≢false}
use Rattle.std.proofs.lemmas.Fmt.{decimal_is_IsNumeral}
use Rattle.std.proofs.lemmas.Str.Parse.{digit_from_value}
use Rattle.squall_key.specs.Keys.{top, root_of, second_of, text_of_key, text_of_bound}
use Rattle.squall_span.specs.Spans.{Interval, text_of_span}
use Rattle.squall_course.specs.declared.moving.Move.{Move}
use Rattle.squall_status.specs.Texts.{open_text}
use Rattle.squall_picture.specs.Bands.{move_title}
use Rattle.squall_picture.specs.Plain.{IsPlain}

digit_plain : (c : ℕ) → (48 ≤ c) × (c ≤ 57) → IsPlain c
digit_plain c r = (λ e. omega (arith, r.0, r.1, e), λ e. omega (arith, r.0, r.1, e), λ e. omega (arith, r.0, r.1, e), λ e. omega (arith, r.0, r.1, e), λ e. omega (arith, r.0, r.1, e))

digits_plain : (cs : List ℕ) → AllDigits 10 cs → AllByRecursion IsPlain cs
digits_plain [] all = tt
digits_plain (c ∷ cs) all = (digit_plain c (digit_from_value c all.0), digits_plain cs all.1)

both_plain : (xs ys : List ℕ) → AllByRecursion IsPlain xs → AllByRecursion IsPlain ys → AllByRecursion IsPlain (xs ++ ys)
both_plain [] ys a b = b
both_plain (x ∷ xs) ys a b = (a.0, both_plain xs ys a.1 b)

pub number_plain : (n : ℕ) → n < 2 ^ 64 → AllByRecursion IsPlain (decimal n)
number_plain n few = digits_plain (decimal n) (decimal_is_IsNumeral n few).0.1

-- ---- texts that are written as they stand

abbrev marks : ℕ → Bool
marks c = c == 60 || (c == 62 || (c == 38 || (c == 39 || c == 34)))

other_code : (c mark : ℕ) → marks mark ≡ true → marks c ≡ false → c ≢ mark
other_code c mark is not e = true≢false (sym is ∙ ap marks (sym e) ∙ not)

unmarked : (c : ℕ) → marks c ≡ false → IsPlain c
unmarked c not = (other_code c 60 refl not, other_code c 62 refl not, other_code c 38 refl not, other_code c 39 refl not, other_code c 34 refl not)

neither : (a b : Bool) → (a || b) ≡ false → (a ≡ false) × (b ≡ false)
neither true b h = absurd (true≢false h)
neither false b h = (refl, h)

letters_plain : (cs : List ℕ) → list_any marks cs ≡ false → AllByRecursion IsPlain cs
letters_plain [] h = tt
letters_plain (c ∷ cs) h = let both = neither (marks c) (list_any marks cs) h in (unmarked c both.0, letters_plain cs both.1)

either_plain : (b : Bool) (xs ys : List ℕ) → AllByRecursion IsPlain xs → AllByRecursion IsPlain ys → AllByRecursion IsPlain (if b then xs else ys)
either_plain true xs ys p q = p
either_plain false xs ys p q = q

-- ---- what a picture writes of values

key_plain : (k : ℕ) → k ≤ top → AllByRecursion IsPlain (text_of_key k)
key_plain k le =
    both_plain (decimal (root_of k)) (58 ∷ decimal (second_of k)) (number_plain (root_of k) (omega (arith, le)))
    (unmarked 58 refl, number_plain (second_of k) (omega (arith, le)))

pub bound_plain : (b : ℕ) → b ≤ top → AllByRecursion IsPlain (text_of_bound b)
bound_plain b le = either_plain (b == top) (codes "end") (text_of_key b) (letters_plain (codes "end") refl) (key_plain b le)

pub span_plain : (s : Interval) → s.lo ≤ top → s.hi ≤ top → AllByRecursion IsPlain (text_of_span s)
span_plain s lo hi =
    both_plain ((91 ∷ text_of_bound s.lo) ++ (44 ∷ text_of_bound s.hi)) (41 ∷ [])
    (both_plain (91 ∷ text_of_bound s.lo) (44 ∷ text_of_bound s.hi) (unmarked 91 refl, bound_plain s.lo lo) (unmarked 44 refl, bound_plain s.hi hi))
    (unmarked 41 refl, tt)

pub open_plain : (sub : Option ℕ) → IfSome sub (λ n. n < 2 ^ 64) → AllByRecursion IsPlain (open_text sub)
open_plain None few = letters_plain (codes "none") refl
open_plain (Some n) few = number_plain n few

pub move_plain : (m : Move) → m.span.lo ≤ top → m.span.hi ≤ top → m.source < 2 ^ 64 → m.dest < 2 ^ 64 → m.sub < 2 ^ 64 → AllByRecursion IsPlain (move_title m)
move_plain m lo hi source dest sub =
    let in_sub = codes ", sub-plan " ++ decimal m.sub in
    let to_dest = codes " to " ++ (decimal m.dest ++ in_sub) in
    both_plain (text_of_span m.span) (codes " from " ++ (decimal m.source ++ to_dest)) (span_plain m.span lo hi)
    (both_plain (codes " from ") (decimal m.source ++ to_dest) (letters_plain (codes " from ") refl)
    (both_plain (decimal m.source) to_dest (number_plain m.source source)
    (both_plain (codes " to ") (decimal m.dest ++ in_sub) (letters_plain (codes " to ") refl)
    (both_plain (decimal m.dest) in_sub (number_plain m.dest dest)
    (both_plain (codes ", sub-plan ") (decimal m.sub) (letters_plain (codes ", sub-plan ") refl) (number_plain m.sub sub))))))
