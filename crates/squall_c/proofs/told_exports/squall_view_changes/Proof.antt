-- What lies at both handles is lent to `view_changes`, each for a lifetime that is made for the call, and lies there again once they are over. The room is handed on to it for good.
use Rattle.squall_c.proofs.Steps.{ℕ, [], ◌∷◌, ◌++◌, refl, w64, proved, full_share, id⊢, ftrue, flft, flent, named, vptr, ⊑_static, fact, tables, WpFn, ‵, raw, ◌⊛◌, some, later, prop, ◌$◌, ◌∵◌, !, qed, done, move, keep, drop, use1, use2, split, join, fsplit, fjoin, feq_l, pick, await, regoal, suffices, frame, group, enter, of_opd, addr, from, fld, hop, stop, no_more, and_then, returns, whole, sub, agg, alloc_all, pass_all, free_all, look_at, look_in_at, get, get_in, through, sets, lands_as, lft_new, lft_end, lent_back, u64, usize, yes, Is, shows, lends_shr, uint_vals, uint_Tells, uint_Makes, uint_Lawful, Ptr, RawPtr, block_ptr, lies_at, in_a_block, rawptr_vals, rawptr_Tells, Bor, ShrRef, shr_vals, plain, MutSlice, mut_slice_vals, mut_slice_Tells, mut_slice_Lawful, nothing, owned, heard, peeks, calls_at, Lasts, lasts, triple_of, framed, Stays, walk_of, says, stay_dropped, gave_slice, Goes-dropped, Goes-gave_slice, ends_at}
use Rattle.squall_c.specs.declared.views.ViewSlot as declared
use Rattle.squall_c.specs.contracts.views.ViewSlot.{the_row as R}
use Rattle.squall_c.proofs.views.ViewSlot.TheLaws.{the_row_laws as L}
use Rattle.squall_c_values.specs.contracts.spans.CSpan.{the_row as Row}
use Rattle.squall_c_changes.specs.Changes.{PutsChanges}
use Rattle.squall_c.specs.Views.{seen}
use Rattle.squall_c.specs.contracts.told_exports.squall_view_changes as f
use Rattle.squall_c.proofs.told_exports.squall_view_changes.Statement.{statement}
use Rattle.squall_c.proofs.told_exports.squall_view_changes.Code as code
use Rattle.squall_c.specs.contracts.changes.view_changes as g
use Rattle.squall_c.proofs.changes.view_changes.Met.{met}

abbrev stayed : Stays f.ended.signature.params f.ended.kept
stayed = (stay_dropped _ yes, (stay_dropped _ yes, (stay_dropped _ yes, (stay_dropped _ yes, (gave_slice (0 ∷ []) tt (plain (λ _. Row)), tt)))))

pub squall_view_changes_spec : {M : Type 1} → statement M
squall_view_changes_spec 𝓤 𝓛 𝓜 𝓡 wired =
    let c = f.clauses 𝓛 𝓜.mem 𝓡.returns in let W = walk_of 𝓛 f.ended stayed c in let 𝓣 = tables 𝓤 𝓛.H 𝓜 𝓡 𝓡.env in
    proved 𝓛 f.ended stayed c 𝓜 𝓡 (Goes-dropped 𝓛 1 (plain (λ _. RawPtr)) yes (λ κs x w. refl), (Goes-dropped 𝓛 1 (plain (λ _. RawPtr)) yes (λ κs x w. refl), (Goes-dropped 𝓛 1 (plain (λ _. u64)) yes (λ κs x w. refl), (Goes-dropped 𝓛 1 (plain (λ _. u64)) yes (λ κs x w. refl), (Goes-gave_slice 𝓛 1 0 tt (plain (λ _. Row)), tt)))))
    f.Key.name code.function (code.unfolded 𝓤 𝓛.H 𝓜 𝓡 wired)
    (λ κs. (rawptr_vals, (rawptr_vals, (uint_vals w64, (uint_vals w64, (mut_slice_vals, tt)))))) (λ κs. (rawptr_Tells, (rawptr_Tells, (uint_Tells w64, (uint_Tells w64, (mut_slice_Tells (named 0) κs.0 Row, tt)))))) (λ κs qs bounds a n are.
    let κ0 = κs.0 in let q0 = qs.0 in
    let lo = a.1.1.0 in
    let hi = a.1.1.1.0 in
    let room = a.1.1.1.1.0 in let room_vals = mut_slice_vals room in
    let y : Ptr → Ptr → W.Ghost = λ p p'. ((κs, qs, bounds, (p, (p', (lo, (hi, (room, tt))))), (rawptr_vals p, (rawptr_vals p', (uint_vals w64 lo, (uint_vals w64 hi, (room_vals, tt)))))), n) in
    qed 𝓛 (((‵ (flft κ0 q0) ⊛ ‵ ftrue) ⊛ ‵ (RawPtr.own_val a.0 (rawptr_vals a.0)) ⊛ ‵ (RawPtr.own_val a.1.0 (rawptr_vals a.1.0)) ⊛ ‵ (u64.own_val lo (uint_vals w64 lo)) ⊛ ‵ (u64.own_val hi (uint_vals w64 hi)) ⊛ ‵ ((MutSlice (named 0) κ0 Row).own_val room room_vals) ⊛ ‵ ftrue) ∷ (‵ (lies_at R full_share a.0 n.0) ⊛ ‵ (lies_at R full_share a.1.0 n.1)) ∷ []) ∵
    split ! $ split ! $ move ! (1 ∷ []) $ drop ! $ move ! (1 ∷ []) $ split ! $ drop ! $ split ! $ drop ! $ split ! $ drop ! $ split ! $ drop ! $ split ! $ move ! (1 ∷ []) $ drop ! $ move ! (2 ∷ []) $ split ! $
    in_a_block ! a.0 (λ p. lies_at R full_share p n.0) (id⊢ 𝓤 _) (λ b o e.
    regoal ! (λ p. prop (WpFn 𝓤 𝓛.H 𝓣.C 𝓣.Λ code.function (rawptr_vals p ++ (rawptr_vals a.1.0 ++ (uint_vals w64 lo ++ (uint_vals w64 hi ++ (room_vals ++ ([])))))) (W.post (y p a.1.0)))) e refl $ move ! (1 ∷ []) $
    in_a_block ! a.1.0 (λ p. lies_at R full_share p n.1) (id⊢ 𝓤 _) (λ b' o' e'.
    regoal ! (λ p'. prop (WpFn 𝓤 𝓛.H 𝓣.C 𝓣.Λ code.function (rawptr_vals (block_ptr b o) ++ (rawptr_vals p' ++ (uint_vals w64 lo ++ (uint_vals w64 hi ++ (room_vals ++ ([])))))) (W.post (y (block_ptr b o) p')))) e' refl $ move ! (1 ∷ []) $
    -- the parameters are stored, and the pointers followed: [memory; memory'; room; token 0]
    enter ! _ _ _ _ _ $ alloc_all ! (λ l. pass_all ! refl ((tt, tt), ((tt, tt), ((tt, record { fits = are.1.1.0.1 }), ((tt, record { fits = are.1.1.1.0.1 }), (((mut_slice_Lawful 𝓛 (named 0) κ0 Row).typed room room_vals are.1.1.1.1.0).0, tt))))) $
    sets ! (of_opd ! (get ! refl)) refl (tt, tt) $ sets ! (addr ! (through ! refl (stop !))) refl (tt, tt) $
    sets ! (of_opd ! (get ! refl)) refl (tt, tt) $ sets ! (addr ! (through ! refl (stop !))) refl (tt, tt) $
    sets ! (addr ! (from ! (fld ! refl (hop ! (look_in_at ! 5 (sub ! 0 refl (whole !))) (stop !))))) refl (tt, tt) $
    sets ! (agg ! (and_then ! (get ! refl) (and_then ! (get_in ! (fld ! refl (stop !)) (sub ! 1 refl (whole !))) (no_more !)))) refl (tt, (tt, (record { fits = are.1.1.1.1.0.0.1.0 }, tt))) $
    lft_new ! tt (λ α. move ! (1 ∷ 0 ∷ []) $
    let s : Bor declared.ViewSlot = record { ref_ptr = (b, o); now = n.0 } in
    use2 𝓛 (later ((‵ ((ShrRef (named 0) (α ∷ []) R).own_val s (vptr b o ∷ [])) ⊛ ‵ (flent (α ∷ []) (lies_at R full_share (block_ptr b o) n.0))) ⊛ ‵ (flft (α ∷ []) full_share)))
    (lends_shr 𝓛 R (named 0) (α ∷ []) full_share n.0 b o R.lives (L.shares 𝓛 n.0) ((α ∷ [], full_share) ∷ []) (⊑_static (α ∷ [])) (λ x m. m)) $ await ! tt $ split ! $ split ! $
    -- the first is lent: [the loan; what the lender keeps; α; memory'; room; token 0]
    lft_new ! tt (λ β. move ! (4 ∷ 0 ∷ []) $
    let s' : Bor declared.ViewSlot = record { ref_ptr = (b', o'); now = n.1 } in
    use2 𝓛 (later ((‵ ((ShrRef (named 1) (β ∷ []) R).own_val s' (vptr b' o' ∷ [])) ⊛ ‵ (flent (β ∷ []) (lies_at R full_share (block_ptr b' o') n.1))) ⊛ ‵ (flft (β ∷ []) full_share)))
    (lends_shr 𝓛 R (named 1) (β ∷ []) full_share n.1 b' o' R.lives (L.shares 𝓛 n.1) ((β ∷ [], full_share) ∷ []) (⊑_static (β ∷ [])) (λ x m. m)) $ await ! tt $ split ! $ split ! $
    -- both are lent: [the loan'; what its lender keeps; β; the loan; what its lender keeps; α; room; token 0]
    let G = triple_of 𝓛 g.signature (g.spec 𝓛 𝓜.mem 𝓡.returns) in
    let z : G.Ghost = (((α ∷ [], (β ∷ [], (κ0, tt))), (full_share, (full_share, (q0, tt))), tt, (s, (s', (lo, (hi, (room, tt))))), (shr_vals s, (shr_vals s', (uint_vals w64 lo, (uint_vals w64 hi, (room_vals, tt)))))), tt) in
    nothing ! $ move ! (7 ∷ 0 ∷ []) $ join ! $ owned ! u64 (Is u64) (uint_Makes 𝓛 w64) hi _ (refl, are.1.1.1.0.1) $ join ! $ owned ! u64 (Is u64) (uint_Makes 𝓛 w64) lo _ (refl, are.1.1.0.1) $ join ! $ move ! (1 ∷ 0 ∷ []) $ join ! $ move ! (3 ∷ 0 ∷ []) $ join ! $
    nothing ! $ move ! (6 ∷ 0 ∷ []) $ join ! $ move ! (3 ∷ 0 ∷ []) $ join ! $ move ! (4 ∷ 0 ∷ []) $ join ! $ join ! $ nothing ! $ move ! (1 ∷ 0 ∷ []) $ join ! $
    -- the call
    use1 𝓛 (raw (G.pre z)) (id⊢ 𝓤 _) $
    calls_at ! (framed 𝓤 𝓛.H 𝓜 (tables 𝓤 𝓛.H 𝓜 𝓡 𝓡.env)) G (met 𝓤 𝓛 𝓜 𝓡 (code.calls-squall_c::changes::view_changes 𝓡.env wired)) z
    (and_then ! (get ! refl) (and_then ! (get ! refl) (and_then ! (get ! refl) (and_then ! (get ! refl) (and_then ! (get ! refl) (no_more !)))))) (λ v.
    use1 𝓛 (later (some (λ (u : ℕ). ((‵ (flft (α ∷ []) full_share) ⊛ ‵ (flft (β ∷ []) full_share) ⊛ ‵ (flft κ0 q0) ⊛ ‵ ftrue) ⊛ ‵ (usize.own_val u (v ∷ []))) ⊛
    some (λ (ws : Lasts g.ended z.0.0 z.0.3). ‵ (lasts g.ended z.0.0 z.0.3 ws) ⊛ raw (fact 𝓤 (PutsChanges (seen n.0.view) (seen n.1.view) lo hi room.now ws.1.1.1.1.0 u)))))) (id⊢ 𝓤 _) $
    await ! tt $ pick ! (λ u. split ! $ split ! $ split ! $ move ! (1 ∷ []) $ split ! $ move ! (1 ∷ []) $ split ! $ move ! (1 ∷ []) $ drop ! $ move ! (1 ∷ []) $ lft_end ! tt $ move ! (2 ∷ []) $ lft_end ! tt $ move ! (3 ∷ []) $
    peeks ! usize (Is usize) (shows 𝓛 usize) u (v ∷ []) (λ is. lands_as ! refl refl ((uint_Lawful 𝓛 w64).typed u _ is).0 $
    -- what the call said
    move ! (4 ∷ []) $ pick ! (λ ws. split ! $ move ! (1 ∷ []) $ heard ! _ (λ h0.
    fsplit ! $ drop ! $ fsplit ! $ drop ! $ fsplit ! $ drop ! $ fsplit ! $ drop ! $ fsplit ! $ fsplit ! $ fsplit ! $ move ! (1 ∷ []) $ feq_l ! (λ as_many_room. fjoin ! $ move ! (1 ∷ []) $ drop ! $
    move ! (2 ∷ 6 ∷ []) $ lent_back ! tt $ move ! (3 ∷ 5 ∷ []) $ lent_back ! tt $
    -- both loans are over: [memory'; memory; left of room; result; token 0]
    returns ! (look_at ! 0 refl) $ free_all ! refl $
    -- the end
    suffices ! _ (ends_at 𝓛 f.ended stayed c (y (block_ptr b o) (block_ptr b' o')) v u (tt, (tt, (tt, (tt, (ws.1.1.1.1.0, tt))))) (tt, (tt, (tt, (tt, (as_many_room, tt)))))) $
    nothing ! $ move ! (3 ∷ 0 ∷ []) $ join ! $ nothing ! $ join ! $ nothing ! $ join ! $ nothing ! $ join ! $ nothing ! $ join ! $ nothing ! $ move ! (5 ∷ 0 ∷ []) $ join ! $ keep ! (0 ∷ 1 ∷ 4 ∷ 3 ∷ 2 ∷ []) $ group ! 3 $ frame ! $ frame ! $ says ! h0 $ done !))))))))))))
