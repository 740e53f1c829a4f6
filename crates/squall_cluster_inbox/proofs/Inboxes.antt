-- Each step keeps the rule of the inbox.
use Rattle.std.proofs.Common.{◌≡◌, ◌≢◌, ◌⊎◌, inl, inr, ℕ, ◌+◌, ◌<◌, zero, suc, true, false, true≢false, cond, eqb, eq-eqb, ne_eqb, List, [], ◌∷◌, ◌++◌, length, set, sym, refl, ap, ◌∙◌, subst, ⊎_elim, append_assoc, append-nil, add-one, lt_of_not-le, arith}
use Rattle.std.proofs.Math.Decide.{ℕ_discrete, dec_le}
use mathlib.Core.Option.{some, some-ne-none}
use lib.ListN.{get_elem?}
use Rattle.crossbeam_queue.specs.Fifo.{Pushes, Pops, Forks, Merges, Learns}
use Rattle.crossbeam_queue.proofs.Lists.{at_set}
use Rattle.squall_cluster_inbox.proofs.Views.{at_back, All, all_set}
use Rattle.squall_board.specs.Boards.{BoardValue}
use Rattle.squall_cluster_inbox.specs.declared.letter.Parcel.{Parcel}
use Rattle.squall_cluster_inbox.specs.declared.knows.Knows.{Knows}
use Rattle.squall_cluster_inbox.specs.Inbox.{of, posted, AreLast, taker, sender, nobody, present, live, FitsSender, FitsTaker, Delivers, Ruled}
use Rattle.squall_cluster_inbox.specs.Letters.{Allowance, IsLetter, AreLetters, letters_of}

-- ---- a function that is changed at one number
abbrev put_at : {A : Type 0} → ℕ → A → (ℕ → A) → ℕ → A
put_at n a f p = cond (eqb n p) a (f p)

put_same : {A : Type 0} (n : ℕ) (a : A) (f : ℕ → A) → put_at n a f n ≡ a
put_same n a f = rw (eq-eqb n n refl)

put_else : {A : Type 0} (n : ℕ) (a : A) (f : ℕ → A) (p : ℕ) → (n ≡ p → ⊥) → put_at n a f p ≡ f p
put_else n a f p other = rw (ne_eqb n p other)

same_or : (n p : ℕ) → (n ≡ p) ⊎ (n ≢ p)
same_or n p = elim (ℕ_discrete n p) [ yes d ↦ inl d | no d ↦ inr d ]

-- ---- what is of one sender
pub of-append : (p : ℕ) (xs ys : List Parcel) → of p (xs ++ ys) ≡ of p xs ++ of p ys
of-append p [] ys = refl
of-append p (x ∷ xs) ys = elim (eqb x.from p) as (λ b. cond b (x.letter ∷ of p (xs ++ ys)) (of p (xs ++ ys)) ≡ cond b (x.letter ∷ of p xs) (of p xs) ++ of p ys) [
  | true ↦ ap (λ l. x.letter ∷ l) (of-append p xs ys)
  | false ↦ of-append p xs ys
]

of_one : (p : ℕ) (x : Parcel) → x.from ≡ p → of p (x ∷ []) ≡ x.letter ∷ []
of_one p x e = rw (eq-eqb x.from p e)

of_other : (p : ℕ) (x : Parcel) → (x.from ≡ p → ⊥) → of p (x ∷ []) ≡ []
of_other p x n = rw (ne_eqb x.from p n)

-- ---- how many are live
live_same : (f g : ℕ → ℕ) (n : ℕ) → ((p : ℕ) → p < n → f p ≡ g p) → live f n ≡ live g n
live_same f g zero h = refl
live_same f g (suc n) h = let a : live f n ≡ live g n = live_same f g n (λ p lt. h p (omega arith)) in let b : present (f n) ≡ present (g n) = ap present (h n (omega arith)) in omega arith

live_less : (f : ℕ → ℕ) (from n : ℕ) → from < n → (k : ℕ) → f from ≡ suc k → live (put_at from 0 f) n + 1 ≡ live f n
live_less f from zero lt k e = absurd (omega arith)
live_less f from (suc n) lt k e = ⊎_elim
    (λ (here : from ≡ n).
    let a : live (put_at from 0 f) n ≡ live f n = live_same (put_at from 0 f) f n (λ p below. put_else from 0 f p (λ same. absurd (omega arith))) in
    let b : present (put_at from 0 f n) ≡ 0 = subst (λ (y : ℕ). present (put_at from 0 f y) ≡ 0) here (ap present (put_same from 0 f)) in
    let c : present (f n) ≡ 1 = subst (λ (y : ℕ). present (f y) ≡ 1) here (ap present e) in
    omega arith)
    (λ (there : from ≢ n).
    let a : live (put_at from 0 f) n + 1 ≡ live f n = live_less f from n (let d : from ≢ n = there in omega arith) k e in
    let b : present (put_at from 0 f n) ≡ present (f n) = ap present (put_else from 0 f n there) in
    omega arith)
    (same_or from n)

live_none : (f : ℕ → ℕ) (n : ℕ) → live f n ≡ 0 → (p : ℕ) → p < n → f p ≡ 0
live_none f zero e p lt = absurd (omega arith)
live_none f (suc n) e p lt = ⊎_elim
    (λ (here : p ≡ n). subst (λ (y : ℕ). f y ≡ 0) (sym here) (absent (f n) (omega arith)))
    (λ (there : p ≢ n). live_none f n (omega arith) p (let d : p ≢ n = there in omega arith))
    (same_or p n)
  where
    absent : (k : ℕ) → present k ≡ 0 → k ≡ 0
    absent zero e = refl
    absent (suc k) e = absurd (omega arith)

-- ---- the steps
pub begins : Delivers [] (taker [] 0 [] ∷ [])
begins = let F : ℕ → Knows → Type 0 = λ j u. FitsSender (λ _. 0) (λ _. []) j u × FitsTaker 0 (λ _. 0) (λ _. []) [] j u in (
  0,
  (λ _. 0),
  (λ _. []),
  [],
  (λ p. refl),
  all_set F (nobody ∷ []) 0 (taker [] 0 []) ((λ e. absurd (true≢false (sym e))), λ _. (refl, refl, (λ p _. (refl, refl)), (λ p _. refl), refl))
      (λ j u other e. ⊎_elim (λ t. absurd (some-ne-none u (sym t))) (λ t. absurd (other t.0)) (at_back [] nobody u j e)),
)

pub posts : (n pass : ℕ) (v : Knows) (x : Parcel) → v.sends ≡ true → x.from ≡ v.from → Pushes Delivers n pass v x (λ w. w ≡ sender v.from (v.put ++ x.letter ∷ []))
posts n pass v x may own items views room h at =
    let keeper : ℕ = h.0 in let seat : ℕ → ℕ = h.1 in let sent : ℕ → List BoardValue = h.2 in let taken : List Parcel = h.3 in let mine = (h.5 pass v at).0 may in
    let w : Knows = sender v.from (v.put ++ x.letter ∷ []) in
    let sent' : ℕ → List BoardValue = put_at v.from (v.put ++ x.letter ∷ []) sent in
    let F : ℕ → Knows → Type 0 = λ j u. FitsSender seat sent' j u × FitsTaker keeper seat sent' taken j u in
    let elsewhere : (p : ℕ) → (v.from ≡ p → ⊥) → sent' p ≡ sent p = put_else v.from (v.put ++ x.letter ∷ []) sent in (
      w,
      (
        keeper,
        seat,
        sent',
        taken,
        (λ p.
            let joined : of p (taken ++ (items ++ x ∷ [])) ≡ of p (taken ++ items) ++ of p (x ∷ []) = ap (of p) (sym (append_assoc taken items (x ∷ []))) ∙ of-append p (taken ++ items) (x ∷ []) in
            ⊎_elim
            (λ (here : v.from ≡ p).
            let a : of p (taken ++ items) ≡ v.put = h.4 p ∙ ap sent (sym here) ∙ sym mine.1 in
            let b : of p (x ∷ []) ≡ x.letter ∷ [] = of_one p x (own ∙ here) in
            let c : sent' p ≡ v.put ++ x.letter ∷ [] = ap sent' (sym here) ∙ put_same v.from (v.put ++ x.letter ∷ []) sent in
            joined ∙ ap (λ l. l ++ of p (x ∷ [])) a ∙ ap (λ l. v.put ++ l) b ∙ sym c)
            (λ (there : v.from ≢ p).
            let b : of p (x ∷ []) ≡ [] = of_other p x (λ e. there (sym own ∙ e)) in
            joined ∙ ap (λ l. of p (taken ++ items) ++ l) b ∙ append-nil (of p (taken ++ items)) ∙ h.4 p ∙ sym (elsewhere p there))
            (same_or v.from p)),
        all_set F views pass w ((λ _. (mine.0, sym (put_same v.from (v.put ++ x.letter ∷ []) sent))), λ e. absurd (true≢false (sym e)))
            (λ j u other e.
            let theirs = h.5 j u e in (
              (λ s. let t = theirs.0 s in (t.0, t.1 ∙ sym (elsewhere u.from (λ same. other (let q : j + 1 ≡ pass + 1 = sym t.0 ∙ ap seat (sym same) ∙ mine.0 in omega arith))))),
              λ s. let t = theirs.1 s in (
                t.0,
                t.1,
                (λ p up. let z = t.2 p up in (z.0, elsewhere p (λ same. absurd (let q : pass + 1 ≡ 0 = sym mine.0 ∙ ap seat same ∙ z.0 in omega arith)) ∙ z.1)),
                (λ p none. t.3 p none ∙ sym (elsewhere p (λ same. absurd (let q : pass + 1 ≡ 0 = sym mine.0 ∙ ap seat same ∙ none in omega arith)))),
                t.4,
              ),
            )),
      ),
      refl,
    )

pub takes : (pass : ℕ) (v : Knows) → v.owns ≡ true → Pops Delivers pass v (λ x w. w ≡ taker (v.taken ++ x ∷ []) v.made v.vouched)
takes pass v may x items views h at =
    let keeper : ℕ = h.0 in let seat : ℕ → ℕ = h.1 in let sent : ℕ → List BoardValue = h.2 in let taken : List Parcel = h.3 in let mine = (h.5 pass v at).1 may in
    let w : Knows = taker (v.taken ++ x ∷ []) v.made v.vouched in
    let taken' : List Parcel = taken ++ x ∷ [] in
    let F : ℕ → Knows → Type 0 = λ j u. FitsSender seat sent j u × FitsTaker keeper seat sent taken' j u in (
      w,
      (
        keeper,
        seat,
        sent,
        taken',
        (λ p. ap (of p) (append_assoc taken (x ∷ []) items) ∙ h.4 p),
        all_set F views pass w ((λ e. absurd (true≢false (sym e))), λ _. (mine.0, ap (λ l. l ++ x ∷ []) mine.1, mine.2, mine.3, mine.4))
            (λ j u other e. let theirs = h.5 j u e in (theirs.0, λ s. absurd (other ((theirs.1 s).0 ∙ sym mine.0)))),
      ),
      refl,
    )

pub hires : (pass : ℕ) (v : Knows) → v.owns ≡ true → Forks Delivers pass v (taker v.taken (v.made + 1) v.vouched) (sender v.made [])
hires pass v may items views h at =
    let keeper : ℕ = h.0 in let seat : ℕ → ℕ = h.1 in let sent : ℕ → List BoardValue = h.2 in let taken : List Parcel = h.3 in let mine = (h.5 pass v at).1 may in
    let l : Knows = taker v.taken (v.made + 1) v.vouched in let r : Knows = sender v.made [] in let vs : List Knows = set views pass l in
    let seat' : ℕ → ℕ = put_at v.made (length vs + 1) seat in
    let F : ℕ → Knows → Type 0 = λ j u. FitsSender seat' sent j u × FitsTaker keeper seat' sent taken j u in
    let free : (seat v.made ≡ 0) × (sent v.made ≡ []) = mine.2 v.made (omega arith) in
    let else_seat : (p : ℕ) → (v.made ≡ p → ⊥) → seat' p ≡ seat p = put_else v.made (length vs + 1) seat in
    let new_seat : seat' v.made ≡ length vs + 1 = put_same v.made (length vs + 1) seat in
    let apart : (p k : ℕ) → seat p ≡ k + 1 → v.made ≡ p → ⊥ = λ p k e same. absurd (let q : 0 ≡ k + 1 = sym free.0 ∙ ap seat same ∙ e in omega arith) in
    let old : All F vs = all_set F views pass l (
      (λ e. absurd (true≢false (sym e))),
      λ _. (
        mine.0,
        mine.1,
        (λ p up. let z = mine.2 p (omega arith) in (else_seat p (λ same. absurd (omega arith)) ∙ z.0, z.1)),
        (λ p none. mine.3 p (sym (else_seat p (λ same. absurd (let q : length vs + 1 ≡ 0 = sym new_seat ∙ ap seat' same ∙ none in omega arith))) ∙ none)),
        (let a : live seat' v.made ≡ live seat v.made = live_same seat' seat v.made (λ p below. else_seat p (λ same. absurd (omega arith))) in
            let b : present (seat' v.made) ≡ 1 = ap present (new_seat ∙ add-one (length vs)) in
            let c = mine.4 in
            let d : live seat' (v.made + 1) ≡ live seat' v.made + present (seat' v.made) = ap (live seat') (add-one v.made) in
            omega arith),
      ),
    )
    (λ j u other e. let theirs = h.5 j u e in ((λ s. let t = theirs.0 s in (else_seat u.from (apart u.from j t.0) ∙ t.0, t.1)), λ s. absurd (other ((theirs.1 s).0 ∙ sym mine.0)))) in (
      keeper,
      seat',
      sent,
      taken,
      h.4,
      λ j u e. ⊎_elim (λ x. old j u x)
          (λ (is : (j ≡ length vs) × (r ≡ u)). (
            (λ _. subst (λ (y : Knows). (seat' y.from ≡ j + 1) × (y.put ≡ sent y.from)) is.1 (new_seat ∙ ap (λ k. k + 1) (sym is.0), sym free.1)),
            λ s. absurd (true≢false (sym (ap (λ (y : Knows). y.owns) is.1 ∙ s))),
          ))
          (at_back vs r u j e),
    )

pub retires : (pass : ℕ) (v : Knows) (other : ℕ) (w : Knows) → v.owns ≡ true → w.sends ≡ true → Merges Delivers pass v other w (taker v.taken v.made ((w.from, w.put) ∷ v.vouched)) nobody
retires pass v other w may sends items views h at two at' =
    let keeper : ℕ = h.0 in let seat : ℕ → ℕ = h.1 in let sent : ℕ → List BoardValue = h.2 in let taken : List Parcel = h.3 in let mine = (h.5 pass v at).1 may in
    let both : Knows = taker v.taken v.made ((w.from, w.put) ∷ v.vouched) in let vs : List Knows = set views pass both in
    let was : get_elem? views other ≡ some w = ⊎_elim (λ x. absurd (two x.0)) (λ x. x.1) (at_set views pass other both w at') in
    let theirs = (h.5 other w was).0 sends in
    let seat' : ℕ → ℕ = put_at w.from 0 seat in
    let else_seat : (p : ℕ) → (w.from ≡ p → ⊥) → seat' p ≡ seat p = put_else w.from 0 seat in
    let gone : seat' w.from ≡ 0 = put_same w.from 0 seat in
    let F : ℕ → Knows → Type 0 = λ j u. FitsSender seat' sent j u × FitsTaker keeper seat' sent taken j u in
    let Now : ℕ → Knows → Type 0 = λ j u. j ≢ other → F j u in
    let below : w.from < v.made = lt_of_not-le (λ up. absurd (let a = (mine.2 w.from up).0 in let b = theirs.0 in omega arith)) in
    let now : All Now vs = all_set Now views pass both
    (λ _. (
      (λ e. absurd (true≢false (sym e))),
      λ _. (
        mine.0,
        mine.1,
        (λ p up. let z = mine.2 p up in (else_seat p (λ same. absurd (omega arith)) ∙ z.0, z.1)),
        (λ p none. ⊎_elim
            (λ (here : w.from ≡ p).
            let a : posted p both.vouched ≡ w.put = rw (eq-eqb w.from p here) refl in
            a ∙ theirs.1 ∙ ap sent here)
            (λ (there : w.from ≢ p).
            let a : posted p both.vouched ≡ posted p v.vouched = rw (ne_eqb w.from p there) refl in
            a ∙ mine.3 p (sym (else_seat p there) ∙ none))
            (same_or w.from p)),
        (let a : live seat' v.made + 1 ≡ live seat v.made = live_less seat w.from v.made below other (theirs.0 ∙ add-one other) in let b = mine.4 in omega arith),
      ),
    ))
    (λ j u apart e away.
    let t = h.5 j u e in (
      (λ s. let z = t.0 s in (else_seat u.from (λ same. away (let q : other + 1 ≡ j + 1 = sym theirs.0 ∙ ap seat same ∙ z.0 in omega arith)) ∙ z.0, z.1)),
      λ s. absurd (apart ((t.1 s).0 ∙ sym mine.0)),
    )) in (
      keeper,
      seat',
      sent,
      taken,
      h.4,
      all_set F vs other nobody ((λ e. absurd (true≢false (sym e))), λ e. absurd (true≢false (sym e))) (λ j u away e. now j u e away),
    )

pub settles : (pass : ℕ) (v : Knows) → v.owns ≡ true → Learns Delivers pass v (λ items. length v.vouched ≡ v.made → (p : ℕ) → of p (v.taken ++ items) ≡ posted p v.vouched)
settles pass v may items views h at all p =
    let seat : ℕ → ℕ = h.1 in let taken : List Parcel = h.3 in let mine = (h.5 pass v at).1 may in
    let none : live seat v.made ≡ 0 = let a = mine.4 in omega arith in
    let quiet : seat p ≡ 0 = elim (dec_le v.made p) [ yes d ↦ (mine.2 p d).0 | no d ↦ live_none seat v.made none p (lt_of_not-le d) ] in
    ap (λ l. of p (l ++ items)) mine.1 ∙ h.4 p ∙ sym (mine.3 p quiet)

-- what waits of a sender is what it posted last
pub awaits : (pass : ℕ) (v : Knows) → v.sends ≡ true → Learns Delivers pass v (λ items. AreLast (of v.from items) v.put)
awaits pass v may items views h at =
    let taken : List Parcel = h.3 in let mine = (h.5 pass v at).0 may in
    (of v.from taken, mine.1 ∙ sym (h.4 v.from) ∙ of-append v.from taken items)

-- ---- the same where the queue's letters are allowed
allheld_snoc : (allowed : Allowance) (xs : List Parcel) (x : Parcel) → AreLetters allowed (letters_of xs) → IsLetter allowed x.letter → AreLetters allowed (letters_of (xs ++ x ∷ []))
allheld_snoc allowed [] x h m = (m, tt)
allheld_snoc allowed (y ∷ ys) x h m = (h.0, allheld_snoc allowed ys x h.1 m)

module _ (allowed : Allowance) where
  pub begins_ruled : Ruled allowed [] (taker [] 0 [] ∷ [])
  begins_ruled = (tt, begins)

  pub posts_ruled : (n pass : ℕ) (v : Knows) (x : Parcel) → v.sends ≡ true → x.from ≡ v.from → IsLetter allowed x.letter → Pushes (Ruled allowed) n pass v x (λ w. w ≡ sender v.from (v.put ++ x.letter ∷ []))
  posts_ruled n pass v x may own ok items views room h at = let r = posts n pass v x may own items views room h.1 at in (r.0, (allheld_snoc allowed items x h.0 ok, r.1), r.2)

  pub takes_ruled : (pass : ℕ) (v : Knows) → v.owns ≡ true → Pops (Ruled allowed) pass v (λ x w. (w ≡ taker (v.taken ++ x ∷ []) v.made v.vouched) × IsLetter allowed x.letter)
  takes_ruled pass v may x items views h at = let r = takes pass v may x items views h.1 at in (r.0, (h.0.1, r.1), (r.2, h.0.0))

  pub hires_ruled : (pass : ℕ) (v : Knows) → v.owns ≡ true → Forks (Ruled allowed) pass v (taker v.taken (v.made + 1) v.vouched) (sender v.made [])
  hires_ruled pass v may items views h at = (h.0, hires pass v may items views h.1 at)

  pub retires_ruled : (pass : ℕ) (v : Knows) (other : ℕ) (w : Knows) → v.owns ≡ true → w.sends ≡ true → Merges (Ruled allowed) pass v other w (taker v.taken v.made ((w.from, w.put) ∷ v.vouched)) nobody
  retires_ruled pass v other w may sends items views h at two at' = (h.0, retires pass v other w may sends items views h.1 at two at')

  pub settles_ruled : (pass : ℕ) (v : Knows) → v.owns ≡ true → Learns (Ruled allowed) pass v (λ items. length v.vouched ≡ v.made → (p : ℕ) → of p (v.taken ++ items) ≡ posted p v.vouched)
  settles_ruled pass v may items views h at = settles pass v may items views h.1 at

  pub awaits_ruled : (pass : ℕ) (v : Knows) → v.sends ≡ true → Learns (Ruled allowed) pass v (λ items. AreLast (of v.from items) v.put)
  awaits_ruled pass v may items views h at = awaits pass v may items views h.1 at
