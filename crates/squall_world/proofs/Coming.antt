-- Partitions that come to a world, at the end of its nodes.
use Rattle.std.proofs.Common.{◌≡◌, ℕ, zero, suc, ◌+◌, ◌-◌, ◌<◌, ◌≤◌, ◌==◌, ◌||◌, Bool, true, false, cond, List, [], ◌∷◌, ◌++◌, length, Option, None, Some, option_map, position, refl, sym, ap, subst, ◌∙◌, arith}
use Rattle.std.specs.Prelude.{is_some}
use Rattle.std.specs.List.{slice_get, flat_map, list_any, AllByRecursion}
use Rattle.std.proofs.lemmas.List.{length-append, length-map}
use Rattle.std.proofs.lemmas.Option.{same_Some, none-some}
use Rattle.squall_key.specs.Keys.{part_limit}
use Rattle.squall_course.specs.Change.{Change}
use Rattle.squall_course.specs.Steps.{Up}
use Rattle.squall_part.specs.Parts.{new_part}
use Rattle.squall_world.specs.declared.peer.Role.TheVariants.{Part as PartRole}
use Rattle.squall_world.specs.Nets.{PeerValue, NetValue, IsPartAt, IsRole, new_peer, at_place, first_of, is_part_peer}
use Rattle.squall_world.specs.Views.{id_of}
use Rattle.squall_world.specs.Events.{part_peers}
use Rattle.squall_world.proofs.Lists.{eq_refl, eq_same, eq_differ, first_at, position_is, place_found, place_left, place_right, place_is, any_map, get_left, get_right, within, found_within, all_at}
use Rattle.squall_world.proofs.History.{IsNew}

-- the node of a partition that comes
abbrev pub comer : Change → ℕ → PeerValue
comer first p = new_peer (PartRole (new_part p first))

pub comer_at : (first : Change) (ids : List ℕ) (j p : ℕ) → slice_get ids j ≡ Some p → slice_get (part_peers first ids) j ≡ Some (comer first p)
comer_at first [] j p e = absurd (none-some p e)
comer_at first (q ∷ ids) zero p e = ap (λ v. Some (comer first v)) (same_Some q p e)
comer_at first (q ∷ ids) (suc j) p e = comer_at first ids j p e

pub any_comer : (first : Change) (ids : List ℕ) (p : ℕ) → list_any (is_part_peer p) (part_peers first ids) ≡ list_any (λ q. q == p) ids
any_comer first ids p = any_map (is_part_peer p) (comer first) ids

pub ids_come : (first : Change) (ids : List ℕ) → flat_map (λ x. id_of x.role) (part_peers first ids) ≡ ids
ids_come first [] = refl
ids_come first (p ∷ ids) = ap (λ l. p ∷ l) (ids_come first ids)

-- ---- where they stand

first_comer : (first : Change) (ids : List ℕ) (p : ℕ) → first_at (is_part_peer p) (part_peers first ids) ≡ first_at (λ q. q == p) ids
first_comer first [] p = refl
first_comer first (q ∷ ids) p = ap (λ o. cond (q == p) (Some 0) (option_map suc o)) (first_comer first ids p)

up_low : (from : ℕ) (ids : List ℕ) (j p : ℕ) → Up from ids → slice_get ids j ≡ Some p → from ≤ p
up_low from [] j p up e = absurd (none-some p e)
up_low from (q ∷ ids) zero p up e = subst (λ v. from ≤ v) (same_Some q p e) up.0
up_low from (q ∷ ids) (suc j) p up e = let more = up_low (q + 1) ids j p up.1 e in let le : from ≤ q = up.0 in omega (arith, more, le)

-- each of rising numbers stands at one place
first_up : (from : ℕ) (ids : List ℕ) (j p : ℕ) → Up from ids → slice_get ids j ≡ Some p → first_at (λ q. q == p) ids ≡ Some j
first_up from [] j p up e = absurd (none-some p e)
first_up from (q ∷ ids) zero p up e = ap (λ b. cond b (Some 0) (option_map suc (first_at (λ q. q == p) ids))) (ap (λ v. v == p) (same_Some q p e) ∙ eq_refl p)
first_up from (q ∷ ids) (suc j) p up e =
    let more = up_low (q + 1) ids j p up.1 e in
    ap (λ b. cond b (Some 0) (option_map suc (first_at (λ q. q == p) ids))) (eq_differ q p (λ s. omega (arith, more, s)))
    ∙ ap (option_map suc) (first_up (q + 1) ids j p up.1 e)

pub comer_place : (ps : List PeerValue) (first : Change) (ids : List ℕ) (j p : ℕ) → Up 0 ids → slice_get ids j ≡ Some p → position (is_part_peer p) ps ≡ None → position (is_part_peer p) (ps ++ part_peers first ids) ≡ Some (length ps + j)
comer_place ps first ids j p up e none =
    place_right (is_part_peer p) ps (part_peers first ids) none
    ∙ ap (option_map (λ i. length ps + i)) (position_is (is_part_peer p) (part_peers first ids) ∙ first_comer first ids p ∙ first_up 0 ids j p up e)

-- ---- which node a partition is

-- a partition that was there is the same
pub stays : (ps qs : List PeerValue) (p i : ℕ) → position (is_part_peer p) ps ≡ Some i → at_place (ps ++ qs) (position (is_part_peer p) (ps ++ qs)) ≡ at_place ps (position (is_part_peer p) ps)
stays ps qs p i e =
    let found = place_found (is_part_peer p) ps i e in
    ap (at_place (ps ++ qs)) (place_left (is_part_peer p) ps qs i e)
    ∙ get_left ps qs i (within ps i found.0 found.1)
    ∙ ap (at_place ps) (sym e)

-- another is there where it comes
pub comes : (ps : List PeerValue) (first : Change) (ids : List ℕ) (p : ℕ) → position (is_part_peer p) ps ≡ None → at_place (ps ++ part_peers first ids) (position (is_part_peer p) (ps ++ part_peers first ids)) ≡ cond (list_any (λ q. q == p) ids) (Some (comer first p)) None
comes ps first ids p none =
    ap (at_place (ps ++ part_peers first ids)) (place_right (is_part_peer p) ps (part_peers first ids) none)
    ∙ by (position (is_part_peer p) (part_peers first ids)) refl
    ∙ ap (λ b. cond b (Some (comer first p)) None) (sym (place_is (is_part_peer p) (part_peers first ids)) ∙ any_comer first ids p)
  where
    that : (ids : List ℕ) (j : ℕ) (x : PeerValue) → slice_get (part_peers first ids) j ≡ Some x → is_part_peer p x ≡ true → x ≡ comer first p
    that [] j x e is = absurd (none-some x e)
    that (q ∷ ids) zero x e is =
        let same : comer first q ≡ x = same_Some (comer first q) x e in
        sym same ∙ ap (comer first) (eq_same q p (ap (is_part_peer p) same ∙ is))
    that (q ∷ ids) (suc j) x e is = that ids j x e is

    by : (o : Option ℕ) → position (is_part_peer p) (part_peers first ids) ≡ o → at_place (ps ++ part_peers first ids) (option_map (λ i. length ps + i) o) ≡ cond (is_some o) (Some (comer first p)) None
    by None e = refl
    by (Some j) e =
        let found = place_found (is_part_peer p) (part_peers first ids) j e in
        get_right ps (part_peers first ids) j ∙ found.1 ∙ ap Some (that ids j found.0 found.1 found.2)

-- each that comes stands at its place
pub comer_stands : (n : NetValue) (ps : List PeerValue) (first : Change) (ids : List ℕ) (i : ℕ) → n.peers ≡ ps ++ part_peers first ids → first ≡ first_of n → Up 0 ids → AllByRecursion (λ p. p < part_limit) ids → ((p : ℕ) → list_any (λ q. q == p) ids ≡ true → position (is_part_peer p) ps ≡ None) → length ps ≤ i → i < length n.peers → IsPartAt n i
comer_stands n ps first ids i peers begun up limit apart low high =
    let count : length n.peers ≡ length ps + length (part_peers first ids) = ap length peers ∙ length-append ps (part_peers first ids) in
    let same : length (part_peers first ids) ≡ length ids = length-map ids (comer first) in
    let found = found_within ids (i - length ps) (omega (arith, low, high, count, same)) in
    let at : i ≡ length ps + (i - length ps) = omega (arith, low) in
    record {
      peer = comer first found.0;
      part = new_part found.0 first;
      there = (λ k. slice_get (peers k) (at k)) ∙ get_right ps (part_peers first ids) (i - length ps) ∙ comer_at first ids (i - length ps) found.0 found.1;
      role = refl;
      first = begun;
      limit = all_at (λ p. p < part_limit) ids (i - length ps) found.0 limit found.1;
      place = ap (position (is_part_peer found.0)) peers
          ∙ comer_place ps first ids (i - length ps) found.0 up found.1 (apart found.0 (any_at ids (i - length ps) found.0 found.1))
          ∙ ap Some (sym at);
    }
  where
    any_at : (ids : List ℕ) (j p : ℕ) → slice_get ids j ≡ Some p → list_any (λ q. q == p) ids ≡ true
    any_at [] j p e = absurd (none-some p e)
    any_at (q ∷ ids) zero p e = ap (λ b. b || list_any (λ q. q == p) ids) (ap (λ v. v == p) (same_Some q p e) ∙ eq_refl p)
    any_at (q ∷ ids) (suc j) p e = ap (λ b. (q == p) || b) (any_at ids j p e) ∙ any (q == p)
      where
        any : (b : Bool) → (b || true) ≡ true
        any true = refl
        any false = refl

-- ---- they are new

pub comers_new : (first : Change) (ids : List ℕ) → AllByRecursion (λ p. IsRole p.role) (part_peers first ids) → AllByRecursion IsNew (part_peers first ids)
comers_new first [] valid = tt
comers_new first (p ∷ ids) valid = (record { role = valid.0; board = refl; reports = refl; known = refl; extra = refl }, comers_new first ids valid.1)
