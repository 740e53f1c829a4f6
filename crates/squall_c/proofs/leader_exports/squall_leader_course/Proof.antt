-- What lies at the handle is lent to `leader_course` for a lifetime that is made for the call, and what that makes is written into the room.
use Rattle.squall_c.proofs.Steps.{[], ◌∷◌, ◌++◌, refl, proved, Goes-blank, full_share, id⊢, ftrue, flft, flent, fex, fsep, part_in, named, vunit, vptr, ⊑_static, fact, tables, WpFn, ‵, raw, ◌⊛◌, some, later, prop, ◌$◌, ◌∵◌, !, qed, done, move, keep, drop, use1, use2, split, join, fjoin, fpack, feq_i, pick, await, regoal, suffices, group, enter, assigns, of_opd, unit_lit, init, addr, stop, no_more, and_then, returns, alloc_all, pass_all, free_all, look_at, get, through, sets, lands_as, lft_new, lft_end, lent_back, yes, Is, shows, lends_shr, Ptr, RawPtr, block_ptr, lies_at, room_at, in_a_block, rawptr_vals, rawptr_Tells, Bor, ShrRef, shr_vals, plain, nothing, heard, peeks, calls_at, Lasts, lasts, triple_of, framed, Stays, walk_of, stay_dropped, Goes-dropped, ends_at}
use Rattle.std.specs.contracts.alloc.Global as heap
use Rattle.std.proofs.alloc.Global.TheLaws as heap_laws
use Rattle.squall_c.specs.declared.leaders.LeaderSlot as declared
use Rattle.squall_c.specs.contracts.leaders.LeaderSlot.{the_row as R}
use Rattle.squall_c.proofs.leaders.LeaderSlot.TheLaws.{the_row_laws as L}
use Rattle.squall_c.specs.declared.courses.CourseSlot as made
use Rattle.squall_c.specs.contracts.courses.CourseSlot.{the_row as V}
use Rattle.squall_c.proofs.courses.CourseSlot.TheLaws.{the_row_laws as LV}
use Rattle.squall_c.specs.LeaderSlots.{IsCourseBegun, course_begun}
use Rattle.squall_c.specs.contracts.leader_exports.squall_leader_course as f
use Rattle.squall_c.proofs.leader_exports.squall_leader_course.Statement.{statement}
use Rattle.squall_c.proofs.leader_exports.squall_leader_course.Code as code
use Rattle.squall_c.specs.contracts.leaders.leader_course as g
use Rattle.squall_c.proofs.leaders.leader_course.Met.{met}

abbrev stayed : Stays f.ended.signature.params f.ended.kept
stayed = (stay_dropped _ yes, (stay_dropped _ yes, (stay_dropped _ yes, tt)))

pub squall_leader_course_spec : {M : Type 1} → statement M
squall_leader_course_spec 𝓤 𝓛 𝓜 𝓡 wired =
    let c = f.clauses 𝓛 𝓜.mem 𝓡.returns in let W = walk_of 𝓛 f.ended stayed c in let 𝓣 = tables 𝓤 𝓛.H 𝓜 𝓡 𝓡.env in
    proved 𝓛 f.ended stayed c 𝓜 𝓡 (Goes-blank 𝓛 0 (plain (λ _. heap.the_row)) yes (λ κs x w. tt), (Goes-dropped 𝓛 0 (plain (λ _. RawPtr)) yes (λ κs x w. refl), (Goes-dropped 𝓛 0 (plain (λ _. RawPtr)) yes (λ κs x w. refl), tt)))
    f.Key.name code.function (code.unfolded 𝓤 𝓛.H 𝓜 𝓡 wired)
    (λ κs. ((λ a. heap_laws.lowers.lowered a ∷ []), (rawptr_vals, (rawptr_vals, tt)))) (λ κs. (heap_laws.lowers.val_is, (rawptr_Tells, (rawptr_Tells, tt)))) (λ κs qs bounds a n are.
    let alloc = a.0 in let alloc_vals = heap_laws.lowers.lowered alloc ∷ [] in
    let y : Ptr → Ptr → W.Ghost = λ p p'. ((κs, qs, bounds, (alloc, (p, (p', tt))), (alloc_vals, (rawptr_vals p, (rawptr_vals p', tt)))), n) in
    qed 𝓛 ((‵ ftrue ⊛ ‵ (heap.the_row.own_val alloc alloc_vals) ⊛ ‵ (RawPtr.own_val a.1.0 (rawptr_vals a.1.0)) ⊛ ‵ (RawPtr.own_val a.1.1.0 (rawptr_vals a.1.1.0)) ⊛ ‵ ftrue) ∷ (‵ (lies_at R full_share a.1.0 n) ⊛ ‵ (room_at V a.1.1.0)) ∷ []) ∵
    split ! $ drop ! $ split ! $ move ! (1 ∷ []) $ split ! $ drop ! $ split ! $ drop ! $ drop ! $ move ! (1 ∷ []) $ split ! $
    in_a_block ! a.1.0 (λ p. lies_at R full_share p n) (id⊢ 𝓤 _) (λ b o e.
    regoal ! (λ p. prop (WpFn 𝓤 𝓛.H 𝓣.C 𝓣.Λ code.function (alloc_vals ++ (rawptr_vals p ++ (rawptr_vals a.1.1.0 ++ ([])))) (W.post (y p a.1.1.0)))) e refl $ move ! (1 ∷ []) $
    in_a_block ! a.1.1.0 (λ p. room_at V p) (id⊢ 𝓤 _) (λ b' o' e'.
    regoal ! (λ p'. prop (WpFn 𝓤 𝓛.H 𝓣.C 𝓣.Λ code.function (alloc_vals ++ (rawptr_vals (block_ptr b o) ++ (rawptr_vals p' ++ ([])))) (W.post (y (block_ptr b o) p')))) e' refl $
    -- the parameters are stored, and the pointers followed: [room; memory; alloc]
    enter ! _ _ _ _ _ $ alloc_all ! (λ l. pass_all ! refl (((heap_laws.the_row_laws.lawful 𝓛).typed alloc alloc_vals are.0).0, ((tt, tt), ((tt, tt), tt))) $
    sets ! (of_opd ! (get ! refl)) refl (tt, tt) $ sets ! (of_opd ! (get ! refl)) refl (tt, tt) $ sets ! (addr ! (through ! refl (stop !))) refl (tt, tt) $
    lft_new ! tt (λ α. move ! (2 ∷ 0 ∷ []) $
    let s : Bor declared.LeaderSlot = record { ref_ptr = (b, o); now = n } in
    use2 𝓛 (later ((‵ ((ShrRef (named 0) (α ∷ []) R).own_val s (vptr b o ∷ [])) ⊛ ‵ (flent (α ∷ []) (lies_at R full_share (block_ptr b o) n))) ⊛ ‵ (flft (α ∷ []) full_share)))
    (lends_shr 𝓛 R (named 0) (α ∷ []) full_share n b o R.lives (L.shares 𝓛 n) ((α ∷ [], full_share) ∷ []) (⊑_static (α ∷ [])) (λ x m. m)) $ await ! tt $ split ! $ split ! $
    -- lent: [the loan; what the lender keeps; α; room; alloc]
    let G = triple_of 𝓛 g.signature (g.spec 𝓛 𝓜.mem 𝓡.returns) in
    let z : G.Ghost = (((α ∷ [], tt), (full_share, tt), tt, (alloc, (s, tt)), (alloc_vals, (shr_vals s, tt))), tt) in
    nothing ! $ move ! (1 ∷ 0 ∷ []) $ join ! $ move ! (4 ∷ 0 ∷ []) $ join ! $ nothing ! $ move ! (3 ∷ 0 ∷ []) $ join ! $ join ! $ nothing ! $ move ! (1 ∷ 0 ∷ []) $ join ! $
    -- the call
    use1 𝓛 (raw (G.pre z)) (id⊢ 𝓤 _) $
    calls_at ! (framed 𝓤 𝓛.H 𝓜 (tables 𝓤 𝓛.H 𝓜 𝓡 𝓡.env)) G (met 𝓤 𝓛 𝓜 𝓡 (code.calls-squall_c::leaders::leader_course 𝓡.env wired)) z
    (and_then ! (get ! refl) (and_then ! (get ! refl) (no_more !))) (λ v.
    use1 𝓛 (later (some (λ (u : made.CourseSlot). ((‵ (flft (α ∷ []) full_share) ⊛ ‵ ftrue) ⊛ ‵ (V.own_val u (v ∷ []))) ⊛
    some (λ (ws : Lasts g.ended z.0.0 z.0.3). ‵ (lasts g.ended z.0.0 z.0.3 ws) ⊛ raw (fact 𝓤 (IsCourseBegun (course_begun n.node) u)))))) (id⊢ 𝓤 _) $
    await ! tt $ pick ! (λ u. split ! $ split ! $ split ! $ move ! (1 ∷ []) $ drop ! $ lft_end ! tt $ move ! (1 ∷ []) $
    peeks ! V (Is V) (shows 𝓛 V) u (v ∷ []) (λ is. let good = ((LV.lawful 𝓛).typed u (v ∷ []) is).0 in
    lands_as ! refl refl good $
    -- what the call said
    move ! (2 ∷ []) $ pick ! (λ ws. split ! $ move ! (1 ∷ []) $ heard ! _ (λ h0.
    drop ! $
    move ! (1 ∷ 2 ∷ []) $ lent_back ! tt $
    -- the loan is over: [memory; result; room]
    assigns ! (of_opd ! (get ! refl)) (through ! refl (stop !)) (init ! 2 refl good) $
    sets ! (of_opd ! (unit_lit !)) refl (tt, tt) $
    returns ! (look_at ! 0 refl) $ free_all ! refl $
    move ! (2 ∷ 1 ∷ []) $ use2 𝓛 (‵ (lies_at V full_share (block_ptr b' o') u)) (part_in 𝓛 V refl full_share u b' o' v) $
    -- what lies in the room
    nothing ! $ fpack ! (IsCourseBegun (course_begun n.node) u) (λ _. ftrue) h0 $ move ! (1 ∷ 0 ∷ []) $ fjoin ! $
    fpack ! made.CourseSlot (λ now. fsep (lies_at V full_share (block_ptr b' o') now) (fex (IsCourseBegun (course_begun n.node) now) (λ _. ftrue))) u $
    -- the end
    suffices ! _ (ends_at 𝓛 f.ended stayed c (y (block_ptr b o) (block_ptr b' o')) vunit tt (tt, (tt, (tt, tt))) (tt, (tt, (tt, tt)))) $
    feq_i ! _ (vunit ∷ []) _ refl $ nothing ! $ nothing ! $ join ! $ nothing ! $ join ! $ nothing ! $ join ! $ nothing ! $ keep ! (0 ∷ 1 ∷ 2 ∷ 4 ∷ 3 ∷ []) $ group ! 3 $ done !))))))))))
