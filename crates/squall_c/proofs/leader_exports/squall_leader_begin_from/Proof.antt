-- What lies at the handle is lent to `leader_begin_from` for a lifetime that is made for the call, and lies there again once it is over.
use Rattle.squall_c.proofs.Steps.{ℕ, [], ◌∷◌, ◌++◌, refl, w32, MutBor, proved, full_share, id⊢, ftrue, flft, flent, fex, fsep, named, vptr, fact, tables, WpFn, ‵, raw, ◌⊛◌, some, later, prop, ◌$◌, ◌∵◌, !, qed, done, move, keep, drop, use1, use3, split, join, fsplit, fjoin, fpack, pick, await, regoal, suffices, group, enter, of_opd, addr, stop, no_more, and_then, returns, alloc_all, pass_all, free_all, look_at, get, through, sets, lands_as, Body, lft_new, lft_end, u8, u32, SliceRefOf, yes, Is, shows, lends_ref, ref_back, mem, uint_Lawful, Ptr, RawPtr, block_ptr, lies_at, in_a_block, rawptr_vals, rawptr_Tells, MutRef, mut_vals, Slot, plain, ShrSlice, shr_slice_vals, shr_slice_Tells, shr_slice_Lawful, nothing, heard, peeks, calls_at, Lasts, lasts, triple_of, framed, Stays, walk_of, stay_dropped, Goes-dropped, ends_at}
use Rattle.squall_c.specs.declared.leaders.LeaderSlot as declared
use Rattle.squall_c.specs.contracts.leaders.LeaderSlot.{the_row as R}
use Rattle.squall_c.specs.LeaderSlots.{LeaderBeginsFrom}
use Rattle.squall_c.specs.contracts.leader_exports.squall_leader_begin_from as f
use Rattle.squall_c.proofs.leader_exports.squall_leader_begin_from.Statement.{statement}
use Rattle.squall_c.proofs.leader_exports.squall_leader_begin_from.Code as code
use Rattle.squall_c.specs.contracts.leading.leader_begin_from as g
use Rattle.squall_c.proofs.leading.leader_begin_from.Met.{met}

abbrev Old : Slot 2
Old = SliceRefOf (0 ∷ []) tt (plain (λ _. u8)) (λ _. tt)

abbrev New : Slot 2
New = SliceRefOf (1 ∷ []) tt (plain (λ _. u8)) (λ _. tt)

abbrev stayed : Stays f.ended.signature.params f.ended.kept
stayed = (stay_dropped _ yes, (stay_dropped Old yes, (stay_dropped New yes, tt)))

pub squall_leader_begin_from_spec : {M : Type 1} → statement M
squall_leader_begin_from_spec 𝓤 𝓛 𝓜 𝓡 wired =
    let c = f.clauses 𝓛 𝓜.mem 𝓡.returns in let W = walk_of 𝓛 f.ended stayed c in let 𝓣 = tables 𝓤 𝓛.H 𝓜 𝓡 𝓡.env in
    proved 𝓛 f.ended stayed c 𝓜 𝓡 (Goes-dropped 𝓛 2 (plain (λ _. RawPtr)) yes (λ κs x w. refl), (Goes-dropped 𝓛 2 Old yes (λ κs x w. refl), (Goes-dropped 𝓛 2 New yes (λ κs x w. refl), tt)))
    f.Key.name code.function (code.unfolded 𝓤 𝓛.H 𝓜 𝓡 wired)
    (λ κs. (rawptr_vals, (shr_slice_vals, (shr_slice_vals, tt)))) (λ κs. (rawptr_Tells, (shr_slice_Tells (named 0) κs.0 u8, (shr_slice_Tells (named 1) κs.1.0 u8, tt)))) (λ κs qs bounds a n are.
    let κ0 = κs.0 in let q0 = qs.0 in
    let κ1 = κs.1.0 in let q1 = qs.1.0 in
    let old = a.1.0 in let old_vals = shr_slice_vals old in
    let new = a.1.1.0 in let new_vals = shr_slice_vals new in
    let y : Ptr → W.Ghost = λ p. ((κs, qs, bounds, (p, (old, (new, tt))), (rawptr_vals p, (old_vals, (new_vals, tt)))), n) in
    qed 𝓛 (((‵ (flft κ0 q0) ⊛ ‵ (flft κ1 q1) ⊛ ‵ ftrue) ⊛ ‵ (RawPtr.own_val a.0 (rawptr_vals a.0)) ⊛ ‵ ((ShrSlice (named 0) κ0 u8).own_val old old_vals) ⊛ ‵ ((ShrSlice (named 1) κ1 u8).own_val new new_vals) ⊛ ‵ ftrue) ∷ ‵ (lies_at R full_share a.0 n) ∷ []) ∵
    split ! $ split ! $ move ! (1 ∷ []) $ split ! $ move ! (1 ∷ []) $ drop ! $ move ! (2 ∷ []) $ split ! $ drop ! $ split ! $ move ! (1 ∷ []) $ split ! $ move ! (1 ∷ []) $ drop ! $ move ! (4 ∷ []) $
    in_a_block ! a.0 (λ p. lies_at R full_share p n) (id⊢ 𝓤 _) (λ b o e.
    regoal ! (λ p. prop (WpFn 𝓤 𝓛.H 𝓣.C 𝓣.Λ code.function (rawptr_vals p ++ (old_vals ++ (new_vals ++ ([])))) (W.post (y p)))) e refl $
    -- the parameters are stored, and the pointers followed: [memory; new; old; token 1; token 0]
    enter ! _ _ _ _ _ $ alloc_all ! (λ l. pass_all ! refl ((tt, tt), (((shr_slice_Lawful 𝓛 (named 0) κ0 u8).typed old old_vals are.1.0).0, (((shr_slice_Lawful 𝓛 (named 1) κ1 u8).typed new new_vals are.1.1.0).0, tt))) $
    sets ! (of_opd ! (get ! refl)) refl (tt, tt) $ sets ! (addr ! (through ! refl (stop !))) refl (tt, tt) $
    lft_new ! tt (λ α. move ! (1 ∷ []) $
    use1 𝓛 (later (some (λ (γ : ℕ). ‵ ((MutRef (named 0) (α ∷ []) R).own_val (record { ref_ptr = (b, o); ghost_name = γ; now = n }) (vptr b o ∷ [])) ⊛ ‵ (flent (α ∷ []) (Body (mem R) b o γ)))))
    (lends_ref 𝓛 R (named 0) (α ∷ []) n b o) $ await ! tt $ pick ! (λ γ. split ! $
    -- lent: [the loan; what the lender keeps; α; new; old; token 1; token 0]
    let r : MutBor declared.LeaderSlot = record { ref_ptr = (b, o); ghost_name = γ; now = n } in
    let G = triple_of 𝓛 g.signature (g.spec 𝓛 𝓜.mem 𝓡.returns) in
    let z : G.Ghost = (((α ∷ [], (κ0, (κ1, tt))), (full_share, (q0, (q1, tt))), tt, (r, (old, (new, tt))), (mut_vals r, (old_vals, (new_vals, tt)))), tt) in
    nothing ! $ move ! (4 ∷ 0 ∷ []) $ join ! $ move ! (4 ∷ 0 ∷ []) $ join ! $ move ! (1 ∷ 0 ∷ []) $ join ! $ nothing ! $ move ! (4 ∷ 0 ∷ []) $ join ! $ move ! (4 ∷ 0 ∷ []) $ join ! $ move ! (3 ∷ 0 ∷ []) $ join ! $ join ! $ nothing ! $ move ! (1 ∷ 0 ∷ []) $ join ! $
    -- the call
    use1 𝓛 (raw (G.pre z)) (id⊢ 𝓤 _) $
    calls_at ! (framed 𝓤 𝓛.H 𝓜 (tables 𝓤 𝓛.H 𝓜 𝓡 𝓡.env)) G (met 𝓤 𝓛 𝓜 𝓡 (code.calls-squall_c::leading::leader_begin_from 𝓡.env wired)) z
    (and_then ! (get ! refl) (and_then ! (get ! refl) (and_then ! (get ! refl) (no_more !)))) (λ v.
    use1 𝓛 (later (some (λ (u : ℕ). ((‵ (flft (α ∷ []) full_share) ⊛ ‵ (flft κ0 q0) ⊛ ‵ (flft κ1 q1) ⊛ ‵ ftrue) ⊛ ‵ (u32.own_val u (v ∷ []))) ⊛
    some (λ (ws : Lasts g.ended z.0.0 z.0.3). ‵ (lasts g.ended z.0.0 z.0.3 ws) ⊛ raw (fact 𝓤 (LeaderBeginsFrom old.now new.now n ws.0 u)))))) (id⊢ 𝓤 _) $
    await ! tt $ pick ! (λ u. split ! $ split ! $ split ! $ move ! (1 ∷ []) $ split ! $ move ! (1 ∷ []) $ split ! $ move ! (1 ∷ []) $ drop ! $ move ! (2 ∷ []) $ lft_end ! tt $ move ! (3 ∷ []) $
    peeks ! u32 (Is u32) (shows 𝓛 u32) u (v ∷ []) (λ is. lands_as ! refl refl ((uint_Lawful 𝓛 w32).typed u _ is).0 $
    -- what the call said
    move ! (4 ∷ []) $ pick ! (λ ws. split ! $ move ! (1 ∷ []) $ heard ! _ (λ h0.
    fsplit ! $ fsplit ! $ move ! (1 ∷ []) $ drop ! $ move ! (1 ∷ []) $ drop ! $
    move ! (2 ∷ 5 ∷ 0 ∷ []) $
    use3 𝓛 (later (‵ (lies_at R full_share (block_ptr b o) ws.0))) (ref_back 𝓛 R (α ∷ []) γ ws.0 b o) $ await ! tt $
    -- the loan is over: [memory; result; token 1; token 0]
    returns ! (look_at ! 0 refl) $ free_all ! refl $
    -- what lies at the handle
    nothing ! $ fpack ! (LeaderBeginsFrom old.now new.now n ws.0 u) (λ _. ftrue) h0 $ move ! (1 ∷ 0 ∷ []) $ fjoin ! $
    fpack ! declared.LeaderSlot (λ now. fsep (lies_at R full_share (block_ptr b o) now) (fex (LeaderBeginsFrom old.now new.now n now u) (λ _. ftrue))) ws.0 $
    -- the end
    suffices ! _ (ends_at 𝓛 f.ended stayed c (y (block_ptr b o)) v u (tt, (tt, (tt, tt))) (tt, (tt, (tt, tt)))) $
    nothing ! $ nothing ! $ join ! $ nothing ! $ join ! $ nothing ! $ join ! $ nothing ! $ move ! (4 ∷ 0 ∷ []) $ join ! $ move ! (4 ∷ 0 ∷ []) $ join ! $ keep ! (0 ∷ 1 ∷ 3 ∷ 2 ∷ []) $ group ! 3 $ done !))))))))))
