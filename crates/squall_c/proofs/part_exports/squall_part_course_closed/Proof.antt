-- What lies at the handle is lent to `course_closed` for a lifetime that is made for the call, and lies there again once it is over.
use Rattle.squall_c.proofs.Steps.{◌≡◌, ℕ, [], ◌∷◌, ◌++◌, refl, w32, proved, full_share, id⊢, ftrue, flft, flent, named, vptr, ⊑_static, fact, tables, WpFn, ‵, raw, ◌⊛◌, some, later, prop, ◌$◌, ◌∵◌, !, qed, done, move, keep, drop, use1, use2, split, join, pick, await, regoal, suffices, frame, group, enter, of_opd, addr, stop, no_more, and_then, returns, alloc_all, pass_all, free_all, look_at, get, through, sets, lands_as, lft_new, lft_end, lent_back, u32, yes, Is, shows, lends_shr, uint_vals, uint_Tells, uint_Makes, uint_Lawful, Ptr, RawPtr, block_ptr, lies_at, in_a_block, rawptr_vals, rawptr_Tells, Bor, ShrRef, shr_vals, plain, nothing, owned, heard, peeks, calls_at, Lasts, lasts, on_entry, triple_of, framed, Stays, walk_of, says, stay_dropped, Goes-dropped, ends_at}
use Rattle.squall_c.specs.declared.parts.PartSlot as declared
use Rattle.squall_c.specs.contracts.parts.PartSlot.{the_row as R}
use Rattle.squall_c.proofs.parts.PartSlot.TheLaws.{the_row_laws as L}
use Rattle.squall_c.specs.PartSlots.{closed_number}
use Rattle.squall_c.specs.contracts.part_exports.squall_part_course_closed as f
use Rattle.squall_c.proofs.part_exports.squall_part_course_closed.Statement.{statement}
use Rattle.squall_c.proofs.part_exports.squall_part_course_closed.Code as code
use Rattle.squall_c.specs.contracts.parts.course_closed as g
use Rattle.squall_c.proofs.parts.course_closed.Met.{met}

abbrev stayed : Stays f.ended.signature.params f.ended.kept
stayed = (stay_dropped _ yes, (stay_dropped _ yes, tt))

pub squall_part_course_closed_spec : {M : Type 1} → statement M
squall_part_course_closed_spec 𝓤 𝓛 𝓜 𝓡 wired =
    let c = f.clauses 𝓛 𝓜.mem 𝓡.returns in let W = walk_of 𝓛 f.ended stayed c in let 𝓣 = tables 𝓤 𝓛.H 𝓜 𝓡 𝓡.env in
    proved 𝓛 f.ended stayed c 𝓜 𝓡 (Goes-dropped 𝓛 0 (plain (λ _. RawPtr)) yes (λ κs x w. refl), (Goes-dropped 𝓛 0 (plain (λ _. u32)) yes (λ κs x w. refl), tt))
    f.Key.name code.function (code.unfolded 𝓤 𝓛.H 𝓜 𝓡 wired)
    (λ κs. (rawptr_vals, (uint_vals w32, tt))) (λ κs. (rawptr_Tells, (uint_Tells w32, tt))) (λ κs qs bounds a n are.
    let number = a.1.0 in
    let y : Ptr → W.Ghost = λ p. ((κs, qs, bounds, (p, (number, tt)), (rawptr_vals p, (uint_vals w32 number, tt))), n) in
    qed 𝓛 (raw (on_entry 𝓛 f.signature κs qs a (y a.0).0.4) ∷ ‵ (lies_at R full_share a.0 n) ∷ []) ∵
    drop ! $
    in_a_block ! a.0 (λ p. lies_at R full_share p n) (id⊢ 𝓤 _) (λ b o e.
    regoal ! (λ p. prop (WpFn 𝓤 𝓛.H 𝓣.C 𝓣.Λ code.function (rawptr_vals p ++ (uint_vals w32 number ++ ([]))) (W.post (y p)))) e refl $
    -- the parameters are stored, and the pointers followed: [memory]
    enter ! _ _ _ _ _ $ alloc_all ! (λ l. pass_all ! refl ((tt, tt), ((tt, record { fits = are.1.0.1 }), tt)) $
    sets ! (of_opd ! (get ! refl)) refl (tt, tt) $ sets ! (addr ! (through ! refl (stop !))) refl (tt, tt) $
    lft_new ! tt (λ α. move ! (1 ∷ 0 ∷ []) $
    let s : Bor declared.PartSlot = record { ref_ptr = (b, o); now = n } in
    use2 𝓛 (later ((‵ ((ShrRef (named 0) (α ∷ []) R).own_val s (vptr b o ∷ [])) ⊛ ‵ (flent (α ∷ []) (lies_at R full_share (block_ptr b o) n))) ⊛ ‵ (flft (α ∷ []) full_share)))
    (lends_shr 𝓛 R (named 0) (α ∷ []) full_share n b o R.lives (L.shares 𝓛 n) ((α ∷ [], full_share) ∷ []) (⊑_static (α ∷ [])) (λ x m. m)) $ await ! tt $ split ! $ split ! $
    -- lent: [the loan; what the lender keeps; α]
    let G = triple_of 𝓛 g.signature (g.spec 𝓛 𝓜.mem 𝓡.returns) in
    let z : G.Ghost = (((α ∷ [], tt), (full_share, tt), tt, (s, (number, tt)), (shr_vals s, (uint_vals w32 number, tt))), tt) in
    nothing ! $ owned ! u32 (Is u32) (uint_Makes 𝓛 w32) number _ (refl, are.1.0.1) $ join ! $ move ! (1 ∷ 0 ∷ []) $ join ! $ nothing ! $ move ! (3 ∷ 0 ∷ []) $ join ! $ join ! $ nothing ! $ move ! (1 ∷ 0 ∷ []) $ join ! $
    -- the call
    use1 𝓛 (raw (G.pre z)) (id⊢ 𝓤 _) $
    calls_at ! (framed 𝓤 𝓛.H 𝓜 (tables 𝓤 𝓛.H 𝓜 𝓡 𝓡.env)) G (met 𝓤 𝓛 𝓜 𝓡 (code.calls-squall_c::parts::course_closed 𝓡.env wired)) z
    (and_then ! (get ! refl) (and_then ! (get ! refl) (no_more !))) (λ v.
    use1 𝓛 (later (some (λ (u : ℕ). ((‵ (flft (α ∷ []) full_share) ⊛ ‵ ftrue) ⊛ ‵ (u32.own_val u (v ∷ []))) ⊛
    some (λ (ws : Lasts g.ended z.0.0 z.0.3). ‵ (lasts g.ended z.0.0 z.0.3 ws) ⊛ raw (fact 𝓤 (u ≡ closed_number n.node number)))))) (id⊢ 𝓤 _) $
    await ! tt $ pick ! (λ u. split ! $ split ! $ split ! $ move ! (1 ∷ []) $ drop ! $ lft_end ! tt $ move ! (1 ∷ []) $
    peeks ! u32 (Is u32) (shows 𝓛 u32) u (v ∷ []) (λ is. lands_as ! refl refl ((uint_Lawful 𝓛 w32).typed u _ is).0 $
    -- what the call said
    move ! (2 ∷ []) $ pick ! (λ ws. split ! $ move ! (1 ∷ []) $ heard ! _ (λ h0.
    drop ! $
    move ! (1 ∷ 2 ∷ []) $ lent_back ! tt $
    -- the loan is over: [memory; result]
    returns ! (look_at ! 0 refl) $ free_all ! refl $
    -- the end
    suffices ! _ (ends_at 𝓛 f.ended stayed c (y (block_ptr b o)) v u (tt, (tt, tt)) (tt, (tt, tt))) $
    nothing ! $ nothing ! $ join ! $ nothing ! $ join ! $ nothing ! $ keep ! (0 ∷ 1 ∷ 3 ∷ 2 ∷ []) $ group ! 3 $ frame ! $ says ! h0 $ done !)))))))))
