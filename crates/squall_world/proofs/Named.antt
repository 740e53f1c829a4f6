-- Nodes that come one by one, and the notes of where they stand.
use Rattle.std.proofs.Common.{◌≡◌, ◌≢◌, ℕ, zero, suc, ◌+◌, ◌<◌, ◌≤◌, ◌==◌, ◌&&◌, ◌||◌, not, Bool, true, false, cond, ltb, List, [], ◌∷◌, ◌++◌, length, take, replicate, get_or, set, Option, Some, None, is_some, Vec, refl, sym, ap, subst, ◌∙◌, append-nil, arith, length-set, inl, inr}
use Rattle.std.specs.List.{filter, position, position_or_len, range_with_len, slice_get}
use Rattle.std.specs.Vec.{with_items}
use Rattle.std.proofs.Math.Bool.{and-true}
use Rattle.std.proofs.lemmas.Bool.{cases_Bool, lt-ltb, le-ltb, ltb-true, ltb-false, eqb-true, eq-eqb, ne_eqb, false≢true}
use Rattle.std.proofs.lemmas.List.{map-append, map-id, take_more, length_push, length-take-le, get_or-set_same, get_or-set_other, get_or-replicate, length-replicate, with_items_is}
use Rattle.std.proofs.lemmas.List.Elements.{filter-append}
use Rattle.std.proofs.lemmas.List.FromFn.{map-range_with_len_more}
use Rattle.std.proofs.lemmas.List.Folds.{position_or_len_push}
use Rattle.std.proofs.lemmas.List.Sums.{prefix_len-le-length}
use Rattle.std.proofs.lemmas.Option.{cond_some, none-some, slice_get-get_or, get_or_from_slice_get}
use Rattle.squall_key.specs.Keys.{part_limit}
use Rattle.squall_plan.specs.declared.range.PlanRange.{PlanRange}
use Rattle.squall_plan.specs.Ranges.{names}
use Rattle.squall_course.specs.Change.{Change}
use Rattle.squall_board.specs.Boards.{empty_board}
use Rattle.squall_router.specs.Routers.{router_with}
use Rattle.squall_part.specs.Parts.{PartValue, new_part}
use Rattle.squall_protocol.specs.declared.event.Node.TheVariants.{Part}
use Rattle.squall_protocol.specs.Worlds.{first_parts}
use Rattle.squall_world.specs.declared.peer.Role.TheVariants.{Part as PartRole, Router as RouterRole}
use Rattle.squall_world.specs.Nets.{PeerValue, NetValue, ArePlaced, place_of, new_peer, is_part_role, is_part_peer, IsRole}
use Rattle.squall_world.specs.Events.{part_peers, router_peers, named_first}
use Rattle.squall_world.specs.Naming.{AreNoted, AreRoles, is_missing, missing_below}

-- ---- one more

-- one more number below the limit
range_more : (n : ℕ) → range_with_len 0 (n + 1) ≡ range_with_len 0 n ++ n ∷ []
range_more n = sym (map-id (range_with_len 0 (n + 1))) ∙ map-range_with_len_more (λ (x : ℕ). x) 0 n n (omega arith) ∙ ap (λ xs. xs ++ n ∷ []) (map-id (range_with_len 0 n))

-- what holds of each node of its kind holds of those, where one comes
roles_more : (ps : List PeerValue) (p : PeerValue) → AreRoles ps → IsRole p.role → AreRoles (ps ++ p ∷ [])
roles_more [] p all one = (one, tt)
roles_more (q ∷ ps) p all one = (all.0, roles_more ps p all.1 one)

-- and where several come
pub roles_append : (ps qs : List PeerValue) → AreRoles ps → AreRoles qs → AreRoles (ps ++ qs)
roles_append [] qs a b = b
roles_append (p ∷ ps) qs a b = (a.0, roles_append ps qs a.1 b)

-- one more router
routers_more : (first : Change) (n : ℕ) → router_peers first (n + 1) ≡ router_peers first n ++ new_peer (RouterRole (router_with first empty_board)) ∷ []
routers_more first n = map-range_with_len_more (λ (r : ℕ). new_peer (RouterRole (router_with first empty_board))) 0 n n (omega arith)

-- a router that comes is the next one
pub router_comes : (first : Change) (n : ℕ) (ps qs : List PeerValue) (p : PeerValue) → ps ≡ router_peers first n → p ≡ new_peer (RouterRole (router_with first empty_board)) → qs ≡ ps ++ p ∷ [] → qs ≡ router_peers first (n + 1)
router_comes first n ps qs p so-far node more =
    more ∙ ap (λ (r : PeerValue). ps ++ r ∷ []) node ∙ ap (λ (rs : List PeerValue). rs ++ new_peer (RouterRole (router_with first empty_board)) ∷ []) so-far ∙ sym (routers_more first n)

-- a node that comes is what its kind says
pub one_more_role : (ps qs : List PeerValue) (p : PeerValue) → AreRoles ps → IsRole p.role → qs ≡ ps ++ p ∷ [] → AreRoles qs
one_more_role ps qs p all one more = subst AreRoles (sym more) (roles_more ps p all one)

-- ---- partitions that are missing

module _ (first : Change) (named : List Bool) (places : List (Option ℕ)) (n : ℕ) where
  -- the next number, where it is missing
  missing_more : missing_below (n + 1) named places ≡ missing_below n named places ++ filter (is_missing named places) (n ∷ [])
  missing_more = ap (filter (is_missing named places)) (range_more n) ∙ filter-append (is_missing named places) (range_with_len 0 n) (n ∷ [])

  -- and its node
  parts_more : part_peers first (missing_below (n + 1) named places) ≡ part_peers first (missing_below n named places) ++ part_peers first (filter (is_missing named places) (n ∷ []))
  parts_more = ap (part_peers first) missing_more ∙ map-append (λ p. new_peer (PartRole (new_part p first))) (missing_below n named places) (filter (is_missing named places) (n ∷ []))

  -- the node of a number that is missing comes
  pub part_comes : (ps qs : List PeerValue) (p : PeerValue) (id : ℕ) → ps ≡ part_peers first (missing_below n named places) → is_missing named places n ≡ true → p ≡ new_peer (PartRole (new_part id first)) → id ≡ n → qs ≡ ps ++ p ∷ []
      → qs ≡ part_peers first (missing_below (n + 1) named places)
  part_comes ps qs p id so-far is node same more =
      more ∙ ap (λ (r : PeerValue). ps ++ r ∷ []) (node ∙ ap (λ (k : ℕ). new_peer (PartRole (new_part k first))) same)
      ∙ ap (λ (rs : List PeerValue). rs ++ new_peer (PartRole (new_part n first)) ∷ []) so-far
      ∙ sym (parts_more ∙ ap (λ (b : Bool). part_peers first (missing_below n named places) ++ part_peers first (cond b (n ∷ []) [])) is)

  -- no node of a number comes that is not missing
  pub no_part_comes : (ps : List PeerValue) → ps ≡ part_peers first (missing_below n named places) → is_missing named places n ≡ false → ps ≡ part_peers first (missing_below (n + 1) named places)
  no_part_comes ps so-far is =
      so-far ∙ sym (parts_more ∙ ap (λ (b : Bool). part_peers first (missing_below n named places) ++ part_peers first (cond b (n ∷ []) [])) is ∙ append-nil (part_peers first (missing_below n named places)))

-- ---- the first place at which a test holds, where a list grows

module _ {A : Type 0} (test : A → Bool) where
  -- the place, where the first passes before the end
  placed_at : (zs : List A) (a : ℕ) → position_or_len test zs ≡ a → a < length zs → position test zs ≡ Some a
  placed_at zs a is lt =
      ap (λ (b : Bool). cond b (Some (position_or_len test zs)) None) (lt-ltb (position_or_len test zs) (length zs) (subst (λ (n : ℕ). n < length zs) (sym is) lt)) ∙ ap Some is

  -- no place, where none passes
  unplaced : (zs : List A) → length zs ≤ position_or_len test zs → position test zs ≡ None
  unplaced zs le = ap (λ (b : Bool). cond b (Some (position_or_len test zs)) None) (le-ltb (position_or_len test zs) (length zs) le)

  -- where there is no place, none passes
  at_end : (zs : List A) → position test zs ≡ None → position_or_len test zs ≡ length zs
  at_end zs none = elim (cases_Bool (ltb (position_or_len test zs) (length zs))) [
    | inl so ↦ absurd (none-some (position_or_len test zs) (sym none ∙ ap (λ (b : Bool). cond b (Some (position_or_len test zs)) None) so))
    | inr not-so ↦ omega (arith, ltb-false (position_or_len test zs) (length zs) not-so, prefix_len-le-length (λ x. not (test x)) zs)
  ]

  -- it stands among the first already
  place_stays : (xs : List A) (y : A) (i : ℕ) → position test xs ≡ Some i → position test (xs ++ y ∷ []) ≡ Some i
  place_stays xs y i is =
      let found = cond_some (ltb (position_or_len test xs) (length xs)) (position_or_len test xs) i is in
      let below : position_or_len test xs < length xs = ltb-true (position_or_len test xs) (length xs) found.0 in
      let not-end : position_or_len test xs ≢ length xs = omega arith in
      let same = position_or_len_push test xs y ∙ ap (λ (b : Bool). cond b (length xs + cond (test y) 0 1) (position_or_len test xs)) (ne_eqb (position_or_len test xs) (length xs) not-end) in
      placed_at (xs ++ y ∷ []) i (same ∙ found.1) (omega (arith, length_push xs y, found.1))

  -- how many do not pass, where one comes
  pushed : (xs : List A) (y : A) (b : Bool) → position test xs ≡ None → test y ≡ b → position_or_len test (xs ++ y ∷ []) ≡ length xs + cond b 0 1
  pushed xs y b none is =
      position_or_len_push test xs y ∙ ap (λ (b : Bool). cond b (length xs + cond (test y) 0 1) (position_or_len test xs)) (eq-eqb (position_or_len test xs) (length xs) (at_end xs none))
      ∙ ap (λ (b : Bool). length xs + cond b 0 1) is

  -- it is the last
  place_comes : (xs : List A) (y : A) → position test xs ≡ None → test y ≡ true → position test (xs ++ y ∷ []) ≡ Some (length xs)
  place_comes xs y none so = placed_at (xs ++ y ∷ []) (length xs) (omega (arith, pushed xs y true none so)) (omega (arith, length_push xs y))

  -- it is none of them
  no_place : (xs : List A) (y : A) → position test xs ≡ None → test y ≡ false → position test (xs ++ y ∷ []) ≡ None
  no_place xs y none not-so = unplaced (xs ++ y ∷ []) (omega (arith, length_push xs y, pushed xs y false none not-so))

  -- another one changes nothing
  place_same : (xs : List A) (y : A) (o : Option ℕ) → position test xs ≡ o → test y ≡ false → position test (xs ++ y ∷ []) ≡ o
  place_same xs y None is not-so = no_place xs y is not-so
  place_same xs y (Some i) is not-so = place_stays xs y i is

-- ---- the notes, where a node comes

-- two lists that agree at a place have the same there
same_get : {A : Type 0} (xs ys : List A) (i : ℕ) (d : A) → length xs ≡ length ys → get_or xs i d ≡ get_or ys i d → i < length ys → slice_get xs i ≡ slice_get ys i
same_get xs ys i d lengths is lt = slice_get-get_or xs i d (omega (arith, lengths)) ∙ ap Some is ∙ sym (slice_get-get_or ys i d lt)

module _ (peers : List PeerValue) (at : ℕ) (peer : PeerValue) (places : List (Option ℕ)) (within : at < length peers) (read : peer ≡ get_or peers at peer) (noted : AreNoted (take at peers) places) where
  -- the first nodes, and one more
  one_more : take (at + 1) peers ≡ take at peers ++ peer ∷ []
  one_more = take_more peers at peer within ∙ ap (λ (q : PeerValue). take at peers ++ q ∷ []) (sym read)

  -- a number that the node has not
  other : (p : ℕ) → is_part_peer p peer ≡ false → position (is_part_peer p) (take (at + 1) peers) ≡ position (is_part_peer p) (take at peers)
  other p not-so = ap (position (is_part_peer p)) one_more ∙ place_same (is_part_peer p) (take at peers) peer (position (is_part_peer p) (take at peers)) refl not-so

  module _ (part : PartValue) (role : peer.role ≡ PartRole part) (limit : part.id < part_limit) where
    -- the node has that number alone
    tested : (p : ℕ) → is_part_peer p peer ≡ (part.id == p)
    tested p = ap (is_part_role p) role

    -- what is noted for its number
    noted_at : get_or places part.id None ≡ position (is_part_peer part.id) (take at peers)
    noted_at = get_or_from_slice_get places part.id (position (is_part_peer part.id) (take at peers)) None (noted.each part.id limit)

    -- the number is noted already
    old_each : (i p : ℕ) → position (is_part_peer part.id) (take at peers) ≡ Some i → p < part_limit → (b : Bool) → (part.id == p) ≡ b → slice_get places p ≡ Some (position (is_part_peer p) (take (at + 1) peers))
    old_each i p old lt true is =
        let same = eqb-true part.id p is in
        let stays = ap (position (is_part_peer part.id)) one_more ∙ place_stays (is_part_peer part.id) (take at peers) peer i old in
        subst (λ (q : ℕ). slice_get places q ≡ Some (position (is_part_peer q) (take (at + 1) peers))) same (noted.each part.id limit ∙ ap Some (old ∙ sym stays))
    old_each i p old lt false is = noted.each p lt ∙ ap Some (sym (other p (tested p ∙ is)))

    pub note_old : (o : Option ℕ) → get_or places part.id None ≡ o → is_some o ≡ true → AreNoted (take (at + 1) peers) places
    note_old None is some = absurd (false≢true some)
    note_old (Some i) is some = record { length = noted.length; each = λ p lt. old_each i p (sym noted_at ∙ is) lt (part.id == p) refl }

    -- the number is new
    new_each : (p : ℕ) → position (is_part_peer part.id) (take at peers) ≡ None → p < part_limit → (b : Bool) → (part.id == p) ≡ b → slice_get (set places part.id (Some at)) p ≡ Some (position (is_part_peer p) (take (at + 1) peers))
    new_each p none lt true is =
        let same = eqb-true part.id p is in
        let here : part.id < length places = omega (arith, noted.length) in
        let wide : part.id < length (set places part.id (Some at)) = omega (arith, noted.length, length-set places part.id (Some at)) in
        let count : length (take at peers) ≡ at = length-take-le at peers (omega arith) in
        let comes = ap (position (is_part_peer part.id)) one_more ∙ place_comes (is_part_peer part.id) (take at peers) peer none (tested part.id ∙ eq-eqb part.id part.id refl) ∙ ap Some count in
        let reads = slice_get-get_or (set places part.id (Some at)) part.id None wide ∙ ap Some (get_or-set_same places part.id (Some at) None here) in
        subst (λ (q : ℕ). slice_get (set places part.id (Some at)) q ≡ Some (position (is_part_peer q) (take (at + 1) peers))) same (reads ∙ ap Some (sym comes))
    new_each p none lt false is =
        let differ : p ≢ part.id = λ e. false≢true (sym is ∙ eq-eqb part.id p (sym e)) in
        same_get (set places part.id (Some at)) places p None (length-set places part.id (Some at)) (get_or-set_other places part.id p (Some at) None differ) (omega (arith, noted.length))
        ∙ noted.each p lt ∙ ap Some (sym (other p (tested p ∙ is)))

    pub note_new : (o : Option ℕ) → get_or places part.id None ≡ o → is_some o ≡ false → AreNoted (take (at + 1) peers) (set places part.id (Some at))
    note_new None is none = record { length = length-set places part.id (Some at) ∙ noted.length; each = λ p lt. new_each p (sym noted_at ∙ is) lt (part.id == p) refl }
    note_new (Some i) is none = absurd (false≢true (sym none))

-- ---- the partitions that plans name

-- tests that agree below a limit choose the same
filter_same : (f g : ℕ → Bool) (a k : ℕ) → ((p : ℕ) → a ≤ p → p < a + k → f p ≡ g p) → filter f (range_with_len a k) ≡ filter g (range_with_len a k)
filter_same f g a zero h = refl
filter_same f g a (suc k) h =
    ap (λ (b : Bool). cond b (a ∷ filter f (range_with_len (a + 1) k)) (filter f (range_with_len (a + 1) k))) (h a (omega arith) (omega arith))
    ∙ ap (λ (xs : List ℕ). cond (g a) (a ∷ xs) xs) (filter_same f g (a + 1) k (λ p le lt. h p (omega arith) (omega arith)))

-- those marked, where each mark and each place is known
pub missing_is : (named : List Bool) (places : List (Option ℕ)) (test : ℕ → Bool) → length named ≡ part_limit → ((p : ℕ) → p < part_limit → is_missing named places p ≡ test p)
    → missing_below (length named) named places ≡ filter test (range_with_len 0 part_limit)
missing_is named places test count each = ap (λ (k : ℕ). missing_below k named places) count ∙ filter_same (is_missing named places) test 0 part_limit (λ p le lt. each p lt)

-- a mark where none was
pub marked_once : (old new : List Bool) (plan : List PlanRange) (p : ℕ) → old ≡ replicate part_limit false → p < part_limit → get_or new p false ≡ (get_or old p false || names plan p) → get_or new p false ≡ names plan p
marked_once old new plan p fresh lt is = is ∙ ap (λ (b : Bool). b || names plan p) (ap (λ (xs : List Bool). get_or xs p false) fresh ∙ get_or-replicate part_limit p false false lt)

-- the new ones among those that a plan names
pub named_first_is : (n : NetValue) (named old : List Bool) (plan : List PlanRange) → ArePlaced n → length named ≡ part_limit → old ≡ replicate part_limit false → ((p : ℕ) → get_or named p false ≡ (get_or old p false || names plan p))
    → missing_below (length named) named n.places ≡ named_first n plan
named_first_is n named old plan placed count fresh marks =
    missing_is named n.places (λ p. names plan p && not (is_some (place_of n (Part p)))) count
    (λ p lt i. marked_once old named plan p fresh lt (marks p) i && not (is_some (get_or_from_slice_get n.places p (place_of n (Part p)) None (placed.each p lt) i)))

-- those that either of two plans names, while none stands anywhere
pub first_parts_is : (named old between : List Bool) (places : List (Option ℕ)) (a b : List PlanRange) → AreNoted [] places → length named ≡ part_limit → old ≡ replicate part_limit false
    → ((p : ℕ) → get_or between p false ≡ (get_or old p false || names a p)) → ((p : ℕ) → get_or named p false ≡ (get_or between p false || names b p))
    → missing_below (length named) named places ≡ first_parts a b
first_parts_is named old between places a b noted count fresh first second =
    missing_is named places (λ p. names a p || names b p) count (λ p lt.
    let marked = second p ∙ ap (λ (x : Bool). x || names b p) (marked_once old between a p fresh lt (first p)) in
    let nowhere = get_or_from_slice_get places p None None (noted.each p lt) in
    ap (λ (o : Option ℕ). get_or named p false && not (is_some o)) nowhere ∙ and-true (get_or named p false) ∙ marked)

-- no partition stands anywhere
pub none_noted : (places : List (Option ℕ)) → places ≡ replicate part_limit None → AreNoted [] places
none_noted places is =
    let none : Option ℕ = None in
    let count : length (replicate part_limit none) ≡ part_limit = length-replicate part_limit none in
    record {
      length = ap (λ (xs : List (Option ℕ)). length xs) is ∙ count;
      each = λ p lt. ap (λ (xs : List (Option ℕ)). slice_get xs p) is ∙ slice_get-get_or (replicate part_limit none) p none (subst (λ (k : ℕ). p < k) (sym count) lt) ∙ ap Some (get_or-replicate part_limit p none none lt);
    }

-- how long a list of marks is
pub fresh_length : {Z : Type 0} (v : Vec Bool Z) → v.items ≡ replicate part_limit false → v.len ≡ part_limit
fresh_length v fresh = v.ok.0 ∙ ap (λ (xs : List Bool). length xs) fresh ∙ length-replicate part_limit false

-- what is marked is what the marks say, of all of them
pub marked_is : {Z : Type 0} (v : Vec Bool Z) (marked seen : List Bool) → v.len ≡ part_limit → length marked ≡ part_limit → seen ≡ (with_items v marked).items → seen ≡ marked
marked_is v marked seen size count is = is ∙ with_items_is v marked (count ∙ sym size)
