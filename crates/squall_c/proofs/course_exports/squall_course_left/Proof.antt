-- What lies at the handle is lent to `left_text` for a lifetime that is made for the call, and lies there again once it is over. The spans are lent on to it, and the room is handed on for good.
use Rattle.squall_c.proofs.Steps.{ℕ, [], ◌∷◌, ◌++◌, refl, w64, proved, full_share, id⊢, ftrue, flft, flent, named, vptr, ⊑_static, fact, tables, WpFn, ‵, raw, ◌⊛◌, some, later, prop, ◌$◌, ◌∵◌, !, qed, done, move, keep, drop, use1, use2, split, join, fsplit, fjoin, feq_l, pick, await, regoal, suffices, frame, group, enter, of_opd, addr, from, fld, hop, stop, no_more, and_then, returns, whole, sub, agg, alloc_all, pass_all, free_all, look_at, look_in_at, get, get_in, through, sets, lands_as, lft_new, lft_end, lent_back, u8, usize, SliceRefOf, yes, Is, shows, lends_shr, uint_Lawful, Ptr, RawPtr, block_ptr, lies_at, in_a_block, rawptr_vals, rawptr_Tells, Bor, ShrRef, shr_vals, Slot, plain, ShrSlice, shr_slice_vals, shr_slice_Tells, shr_slice_Lawful, MutSlice, mut_slice_vals, mut_slice_Tells, mut_slice_Lawful, nothing, owned, heard, peeks, calls_at, Lasts, lasts, triple_of, framed, Stays, walk_of, says, stay_dropped, gave_slice, Goes-dropped, Goes-gave_slice, ends_at}
use Rattle.squall_c.specs.declared.courses.CourseSlot as declared
use Rattle.squall_c.specs.contracts.courses.CourseSlot.{the_row as R}
use Rattle.squall_c.proofs.courses.CourseSlot.TheLaws.{the_row_laws as L}
use Rattle.squall_c_values.specs.contracts.spans.CSpan.{the_row as Span}
use Rattle.squall_c.specs.Telling.{PutsLeftText}
use Rattle.squall_c.specs.contracts.course_exports.squall_course_left as f
use Rattle.squall_c.proofs.course_exports.squall_course_left.Statement.{statement}
use Rattle.squall_c.proofs.course_exports.squall_course_left.Code as code
use Rattle.squall_c.specs.contracts.texts.left_text as g
use Rattle.squall_c.proofs.texts.left_text.Met.{met}

abbrev Spans : Slot 2
Spans = SliceRefOf (0 ∷ []) tt (plain (λ _. Span)) (λ _. tt)

abbrev stayed : Stays f.ended.signature.params f.ended.kept
stayed = (stay_dropped _ yes, (stay_dropped Spans yes, (gave_slice (1 ∷ []) tt (plain (λ _. u8)), tt)))

pub squall_course_left_spec : {M : Type 1} → statement M
squall_course_left_spec 𝓤 𝓛 𝓜 𝓡 wired =
    let c = f.clauses 𝓛 𝓜.mem 𝓡.returns in let W = walk_of 𝓛 f.ended stayed c in let 𝓣 = tables 𝓤 𝓛.H 𝓜 𝓡 𝓡.env in
    proved 𝓛 f.ended stayed c 𝓜 𝓡 (Goes-dropped 𝓛 2 (plain (λ _. RawPtr)) yes (λ κs x w. refl), (Goes-dropped 𝓛 2 Spans yes (λ κs x w. refl), (Goes-gave_slice 𝓛 2 1 tt (plain (λ _. u8)), tt)))
    f.Key.name code.function (code.unfolded 𝓤 𝓛.H 𝓜 𝓡 wired)
    (λ κs. (rawptr_vals, (shr_slice_vals, (mut_slice_vals, tt)))) (λ κs. (rawptr_Tells, (shr_slice_Tells (named 0) κs.0 Span, (mut_slice_Tells (named 1) κs.1.0 u8, tt)))) (λ κs qs bounds a n are.
    let κ0 = κs.0 in let q0 = qs.0 in
    let κ1 = κs.1.0 in let q1 = qs.1.0 in
    let loaded = a.1.0 in let loaded_vals = shr_slice_vals loaded in
    let room = a.1.1.0 in let room_vals = mut_slice_vals room in
    let y : Ptr → W.Ghost = λ p. ((κs, qs, bounds, (p, (loaded, (room, tt))), (rawptr_vals p, (loaded_vals, (room_vals, tt)))), n) in
    qed 𝓛 (((‵ (flft κ0 q0) ⊛ ‵ (flft κ1 q1) ⊛ ‵ ftrue) ⊛ ‵ (RawPtr.own_val a.0 (rawptr_vals a.0)) ⊛ ‵ ((ShrSlice (named 0) κ0 Span).own_val loaded loaded_vals) ⊛ ‵ ((MutSlice (named 1) κ1 u8).own_val room room_vals) ⊛ ‵ ftrue) ∷ ‵ (lies_at R full_share a.0 n) ∷ []) ∵
    split ! $ split ! $ move ! (1 ∷ []) $ split ! $ move ! (1 ∷ []) $ drop ! $ move ! (2 ∷ []) $ split ! $ drop ! $ split ! $ move ! (1 ∷ []) $ split ! $ move ! (1 ∷ []) $ drop ! $ move ! (4 ∷ []) $
    in_a_block ! a.0 (λ p. lies_at R full_share p n) (id⊢ 𝓤 _) (λ b o e.
    regoal ! (λ p. prop (WpFn 𝓤 𝓛.H 𝓣.C 𝓣.Λ code.function (rawptr_vals p ++ (loaded_vals ++ (room_vals ++ ([])))) (W.post (y p)))) e refl $
    -- the parameters are stored, and the pointers followed: [memory; room; loaded; token 1; token 0]
    enter ! _ _ _ _ _ $ alloc_all ! (λ l. pass_all ! refl ((tt, tt), (((shr_slice_Lawful 𝓛 (named 0) κ0 Span).typed loaded loaded_vals are.1.0).0, (((mut_slice_Lawful 𝓛 (named 1) κ1 u8).typed room room_vals are.1.1.0).0, tt))) $
    sets ! (of_opd ! (get ! refl)) refl (tt, tt) $ sets ! (addr ! (through ! refl (stop !))) refl (tt, tt) $
    sets ! (addr ! (from ! (fld ! refl (hop ! (look_in_at ! 3 (sub ! 0 refl (whole !))) (stop !))))) refl (tt, tt) $
    sets ! (agg ! (and_then ! (get ! refl) (and_then ! (get_in ! (fld ! refl (stop !)) (sub ! 1 refl (whole !))) (no_more !)))) refl (tt, (tt, (record { fits = are.1.1.0.0.1.0 }, tt))) $
    lft_new ! tt (λ α. move ! (1 ∷ 0 ∷ []) $
    let s : Bor declared.CourseSlot = record { ref_ptr = (b, o); now = n } in
    use2 𝓛 (later ((‵ ((ShrRef (named 0) (α ∷ []) R).own_val s (vptr b o ∷ [])) ⊛ ‵ (flent (α ∷ []) (lies_at R full_share (block_ptr b o) n))) ⊛ ‵ (flft (α ∷ []) full_share)))
    (lends_shr 𝓛 R (named 0) (α ∷ []) full_share n b o R.lives (L.shares 𝓛 n) ((α ∷ [], full_share) ∷ []) (⊑_static (α ∷ [])) (λ x m. m)) $ await ! tt $ split ! $ split ! $
    -- lent: [the loan; what the lender keeps; α; room; loaded; token 1; token 0]
    let G = triple_of 𝓛 g.signature (g.spec 𝓛 𝓜.mem 𝓡.returns) in
    let z : G.Ghost = (((α ∷ [], (κ0, (κ1, tt))), (full_share, (q0, (q1, tt))), tt, (s, (loaded, (room, tt))), (shr_vals s, (loaded_vals, (room_vals, tt)))), tt) in
    nothing ! $ move ! (4 ∷ 0 ∷ []) $ join ! $ move ! (4 ∷ 0 ∷ []) $ join ! $ move ! (1 ∷ 0 ∷ []) $ join ! $ nothing ! $ move ! (4 ∷ 0 ∷ []) $ join ! $ move ! (4 ∷ 0 ∷ []) $ join ! $ move ! (3 ∷ 0 ∷ []) $ join ! $ join ! $ nothing ! $ move ! (1 ∷ 0 ∷ []) $ join ! $
    -- the call
    use1 𝓛 (raw (G.pre z)) (id⊢ 𝓤 _) $
    calls_at ! (framed 𝓤 𝓛.H 𝓜 (tables 𝓤 𝓛.H 𝓜 𝓡 𝓡.env)) G (met 𝓤 𝓛 𝓜 𝓡 (code.calls-squall_c::texts::left_text 𝓡.env wired)) z
    (and_then ! (get ! refl) (and_then ! (get ! refl) (and_then ! (get ! refl) (no_more !)))) (λ v.
    use1 𝓛 (later (some (λ (u : ℕ). ((‵ (flft (α ∷ []) full_share) ⊛ ‵ (flft κ0 q0) ⊛ ‵ (flft κ1 q1) ⊛ ‵ ftrue) ⊛ ‵ (usize.own_val u (v ∷ []))) ⊛
    some (λ (ws : Lasts g.ended z.0.0 z.0.3). ‵ (lasts g.ended z.0.0 z.0.3 ws) ⊛ raw (fact 𝓤 (PutsLeftText n.course loaded.now room.now ws.1.1.0 u)))))) (id⊢ 𝓤 _) $
    await ! tt $ pick ! (λ u. split ! $ split ! $ split ! $ move ! (1 ∷ []) $ split ! $ move ! (1 ∷ []) $ split ! $ move ! (1 ∷ []) $ drop ! $ move ! (2 ∷ []) $ lft_end ! tt $ move ! (3 ∷ []) $
    peeks ! usize (Is usize) (shows 𝓛 usize) u (v ∷ []) (λ is. lands_as ! refl refl ((uint_Lawful 𝓛 w64).typed u _ is).0 $
    -- what the call said
    move ! (4 ∷ []) $ pick ! (λ ws. split ! $ move ! (1 ∷ []) $ heard ! _ (λ h0.
    fsplit ! $ drop ! $ fsplit ! $ drop ! $ fsplit ! $ fsplit ! $ fsplit ! $ move ! (1 ∷ []) $ feq_l ! (λ as_many_room. fjoin ! $ move ! (1 ∷ []) $ drop ! $
    move ! (2 ∷ 5 ∷ []) $ lent_back ! tt $
    -- the loan is over: [memory; left of room; result; token 1; token 0]
    returns ! (look_at ! 0 refl) $ free_all ! refl $
    -- the end
    suffices ! _ (ends_at 𝓛 f.ended stayed c (y (block_ptr b o)) v u (tt, (tt, (ws.1.1.0, tt))) (tt, (tt, (as_many_room, tt)))) $
    nothing ! $ move ! (2 ∷ 0 ∷ []) $ join ! $ nothing ! $ join ! $ nothing ! $ join ! $ nothing ! $ move ! (4 ∷ 0 ∷ []) $ join ! $ move ! (4 ∷ 0 ∷ []) $ join ! $ keep ! (0 ∷ 1 ∷ 3 ∷ 2 ∷ []) $ group ! 3 $ frame ! $ says ! h0 $ done !))))))))))
