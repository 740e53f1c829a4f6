-- The routes of a table that was renewed for a set of keys.
use Rattle.std.proofs.Common.{◌≡◌, ℕ, ◌*◌, ◌<◌, ◌≤◌, Bool, true, false, cond, nat_eq, List, [], ◌∷◌, length, refl, sym, ap, subst, ◌∙◌, arith, length-append}
use Rattle.std.specs.Prelude.{◌==◌, ◌||◌, ◌&&◌, not, None, Some}
use Rattle.std.proofs.lemmas.Bool.{and_parts}
use Rattle.std.proofs.lemmas.Bool.Decides.{nat_tests}
use Rattle.std.proofs.lemmas.List.{length-map, take_all}
use Rattle.std.proofs.lemmas.List.Sums.{count_by-le-length}
use Rattle.squall_key.specs.Keys.{top}
use Rattle.squall_span.specs.Spans.{Interval, has}
use Rattle.squall_plan.specs.declared.range.PlanRange.{PlanRange}
use Rattle.squall_plan.specs.Ranges.{owner_of}
use Rattle.squall_course.specs.declared.moving.Move.{Move}
use Rattle.squall_course.specs.Change.{Change}
use Rattle.squall_course.specs.Subplans.{moves, shares}
use Rattle.squall_course.specs.Moves.{overlap, transfer, listed, row, transfers, numbered, moves_of, AreMoves}
use Rattle.squall_report.specs.Facts.{Fact, LoadedKey, DonePart}
use Rattle.squall_report.specs.Told.{TellsBoth}
use Rattle.squall_board.specs.Boards.{BoardValue, says, told}
use Rattle.squall_board.specs.Route.{has_come, route, place_of_key}
use Rattle.squall_board.specs.MovesRoute.{route_by_moves}
use Rattle.squall_board.specs.MovesRouteLaws.{route_by_moves_is}
use Rattle.squall_table.specs.Tables.{IsTable}
use Rattle.squall_table.specs.Legs.{Legs}
use Rattle.squall_table.specs.LegLaws.{legs_as, owner_is}
use Rattle.squall_table.specs.Touched.{is_touched, ChangesWithin, WasTable}
use Rattle.squall_table.specs.LegEntries.{legs_from}
use Rattle.squall_table.specs.Patching.{renewed, IsRenewed}
use Rattle.squall_table.specs.Reach.{is_shared, moves_in}
use Rattle.squall_table.proofs.Moving.{no_move}
use Rattle.squall_table.proofs.Counting.{count_none}

-- ---- few moves

few_listed : (r s : PlanRange) → length (listed (transfer r s)) ≤ 1
few_listed r s = at (shares r.span s.span && not (r.part == s.part))
  where
    at : (b : Bool) → length (listed (cond b (Some (record { span = overlap r.span s.span; source = r.part; dest = s.part })) None)) ≤ 1
    at true = omega arith
    at false = omega arith

few_row : (r : PlanRange) (ss : List PlanRange) → length (row r ss) ≤ length ss
few_row r [] = omega arith
few_row r (s ∷ ss) = let both = length-append (listed (transfer r s)) (row r ss) in omega (arith, few_listed r s, few_row r ss, both)

few_transfers : (rs ss : List PlanRange) → length ss ≤ 4096 → length (transfers rs ss) ≤ 4096 * length rs
few_transfers [] ss le = omega arith
few_transfers (r ∷ rs) ss le = let both = length-append (row r ss) (transfers rs ss) in omega (arith, few_row r ss, few_transfers rs ss le, both)

pub few_moves : (old new : List PlanRange) → length old ≤ 4096 → length new ≤ 4096 → length (moves_of old new) ≤ 16777216
unfolding moves_of
few_moves old new le le' = let same = length-map (transfers old new) (numbered old new) in omega (arith, few_transfers old new le', same)

pub few_in : (set : List Interval) (ms : List Move) → moves_in set ms ≤ length ms
few_in set ms = count_by-le-length _ ms

-- no move shares a key with the empty set
pub none_in : (set : List Interval) (ms : List Move) → set ≡ [] → moves_in set ms ≡ 0
none_in set ms e = ap (λ s. moves_in s ms) e ∙ none ms
  where
    none : (ms : List Move) → moves_in [] ms ≡ 0
    none ms = sym (ap (moves_in []) (take_all (length ms) ms (omega arith))) ∙ count_none (λ m. is_shared [] m.span) ms 0 (length ms) no_move (omega arith) (omega arith) (λ j u v. refl)

pub empty_is : (set : List Interval) (r : Bool) → r ≡ nat_eq (length set) 0 → r ≡ true → set ≡ []
empty_is [] r e t = refl
empty_is (x ∷ xs) r e t = absurd (grind (arith, nat_tests))

-- ---- routes

-- one of two routes that are the same as a third
chosen : (b : Bool) (p q r : ℕ) → (b ≡ true → p ≡ r) → (b ≡ false → q ≡ r) → cond b p q ≡ r
chosen true p q r f g = f refl
chosen false p q r f g = g refl

pub patched_legs : (c : Change) (b : BoardValue) (set : List Interval) (ls new : List PlanRange) (ms : List Move) → AreMoves c.old c.new ms → WasTable c b set ls
    → Legs (renewed set (route_by_moves c.number c.old ms (says b)) (owner_of ls)) 0 top new → Legs (route c (says b)) 0 top new
patched_legs c b set ls new ms are was l = legs_as _ (route c (says b)) 0 top new (λ k from lt. sym (chosen (has set k) _ _ _
    (λ in_it. route_by_moves_is c (says b) ms k are)
    (λ out. was.1.routes k (omega arith) lt ∙ was.2 k lt out))) l

-- a key outside the set keeps its owner
pub others_keep : (r own : ℕ → ℕ) (set : List Interval) (new : List PlanRange) (k : ℕ) → Legs (renewed set r own) 0 top new → k < top → has set k ≡ false → owner_of new k ≡ own k
others_keep r own set new k l lt out = owner_is (renewed set r own) 0 top k new l (omega arith) lt ∙ ap (λ b. cond b (r k) (own k)) out

-- if all has come, a key goes to its new partition
all_come : (c : Change) (said : Fact → Bool) (k : ℕ) → has_come c said k ≡ true → route c said k ≡ owner_of c.new k
all_come c said k e = ap (λ t. cond (not (moves c.old c.new k) || t) (owner_of c.new k) (owner_of c.old k)) e ∙ at (moves c.old c.new k)
  where
    at : (m : Bool) → cond (not m || true) (owner_of c.new k) (owner_of c.old k) ≡ owner_of c.new k
    at true = refl
    at false = refl

pub absorbed_legs : (c : Change) (before after d : BoardValue) (set : List Interval) (ls new : List PlanRange) (ms : List Move) (said : Fact → Bool) → AreMoves c.old c.new ms → ((f : Fact) → said f ≡ true) → IsTable c before ls
    → ((k : ℕ) → has set k ≡ is_touched c (says d) k) → TellsBoth (told after) (told before) (told d) → ChangesWithin c before after set
    → Legs (renewed set (route_by_moves c.number c.old ms said) (owner_of ls)) 0 top new → Legs (route c (says after)) 0 top new
absorbed_legs c before after d set ls new ms said are all is touched both changes l = legs_as _ (route c (says after)) 0 top new (λ k from lt. sym (chosen (has set k) _ _ _
    (λ in_it.
    let come : has_come c (says d) k ≡ true = (and_parts (moves c.old c.new k) (has_come c (says d) k) (sym (touched k) ∙ in_it)).1 in
    route_by_moves_is c said ms k are
    ∙ all_come c said k (ap (λ t. t || said (DonePart (place_of_key c k))) (all (LoadedKey (place_of_key c k) k)))
    ∙ sym (all_come c (says after) k ((λ i. both.facts (LoadedKey (place_of_key c k) k) i || both.facts (DonePart (place_of_key c k)) i) ∙ either (says before (LoadedKey (place_of_key c k) k)) (says d (LoadedKey (place_of_key c k) k)) (says before (DonePart (place_of_key c k))) (says d (DonePart (place_of_key c k))) come)))
    (λ out. is.routes k (omega arith) lt ∙ changes k lt out))) l
  where
    either : (a b c d : Bool) → (b || d) ≡ true → ((a || b) || (c || d)) ≡ true
    either true b c d e = refl
    either false true c d e = refl
    either false false true d e = refl
    either false false false d e = e

-- if a delta touches no key, the table stays
pub absorbed_none : (c : Change) (before after : BoardValue) (set : List Interval) (ls : List PlanRange) → set ≡ [] → ChangesWithin c before after set → IsTable c before ls → IsTable c after ls
absorbed_none c before after set ls e changes is = record {
  tiles = is.tiles;
  differ = is.differ;
  routes = λ k from lt. is.routes k from lt ∙ changes k lt (ap (λ s. has s k) e);
}

-- ---- what was put into a table

-- the legs of a renewal, put into the table
pub renewed_legs : (c : Change) (said : Fact → Bool) (set spans : List Interval) (now : List PlanRange) (inside new made : List (ℕ × ℕ)) → spans ≡ set → legs_from 0 inside ≡ now → new ≡ made → IsRenewed c said spans (legs_from 0 inside) (legs_from 0 made)
    → IsRenewed c said set now (legs_from 0 new)
renewed_legs c said set spans now inside new made s v p l =
    subst (λ (es : List (ℕ × ℕ)). IsRenewed c said set now (legs_from 0 es)) (sym p)
    (subst (λ x. IsRenewed c said x now (legs_from 0 made)) s (subst (λ (ls : List PlanRange). IsRenewed c said spans ls (legs_from 0 made)) v l))
