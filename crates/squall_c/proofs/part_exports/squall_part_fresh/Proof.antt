-- What lies at the handle is lent to `fresh` for a lifetime that is made for the call, and lies there again once it is over. The chunk is lent on to it, and what is written goes on to it for good.
use Rattle.squall_c.proofs.Steps.{ℕ, [], ◌∷◌, ◌++◌, refl, w32, w64, proved, full_share, id⊢, ftrue, flft, flent, named, vptr, ⊑_static, fact, tables, WpFn, ‵, raw, ◌⊛◌, some, later, prop, ◌$◌, ◌∵◌, !, qed, done, move, keep, drop, use1, use2, split, join, fsplit, pick, await, regoal, suffices, frame, group, enter, of_opd, addr, stop, no_more, and_then, returns, alloc_all, pass_all, free_all, look_at, get, through, sets, lands_as, lft_new, lft_end, lent_back, u32, u64, RefOf, yes, Is, shows, lends_shr, uint_vals, uint_Tells, uint_Makes, uint_Lawful, Ptr, RawPtr, block_ptr, lies_at, in_a_block, rawptr_vals, rawptr_Tells, Bor, MutRef, ShrRef, mut_vals, shr_vals, mut_Tells, shr_Tells, Slot, plain, nothing, owned, heard, peeks, calls_at, Lasts, lasts, triple_of, framed, Stays, walk_of, says, stay_dropped, gave_ref, Goes-dropped, Goes-gave_ref, ends_at}
use Rattle.squall_c.specs.declared.parts.PartSlot as declared
use Rattle.squall_c.specs.contracts.parts.PartSlot.{the_row as R}
use Rattle.squall_c.proofs.parts.PartSlot.TheLaws.{the_row_laws as L}
use Rattle.squall_c_parts.specs.contracts.chunks.CChunk.{the_row as Chunk}
use Rattle.squall_c_values.specs.contracts.spans.CSpan.{the_row as Span}
use Rattle.squall_c.specs.PartSlots.{PartFinds}
use Rattle.squall_c.specs.contracts.part_exports.squall_part_fresh as f
use Rattle.squall_c.proofs.part_exports.squall_part_fresh.Statement.{statement}
use Rattle.squall_c.proofs.part_exports.squall_part_fresh.Code as code
use Rattle.squall_c.specs.contracts.parts.fresh as g
use Rattle.squall_c.proofs.parts.fresh.Met.{met}

abbrev Lent : Slot 2
Lent = RefOf (0 ∷ []) tt (plain (λ _. Chunk)) (λ _. tt)

abbrev stayed : Stays f.ended.signature.params f.ended.kept
stayed = (stay_dropped _ yes, (stay_dropped Lent yes, (stay_dropped _ yes, (gave_ref (1 ∷ []) tt (plain (λ _. Span)), tt))))

pub squall_part_fresh_spec : {M : Type 1} → statement M
squall_part_fresh_spec 𝓤 𝓛 𝓜 𝓡 wired =
    let c = f.clauses 𝓛 𝓜.mem 𝓡.returns in let W = walk_of 𝓛 f.ended stayed c in let 𝓣 = tables 𝓤 𝓛.H 𝓜 𝓡 𝓡.env in
    proved 𝓛 f.ended stayed c 𝓜 𝓡 (Goes-dropped 𝓛 2 (plain (λ _. RawPtr)) yes (λ κs x w. refl), (Goes-dropped 𝓛 2 Lent yes (λ κs x w. refl), (Goes-dropped 𝓛 2 (plain (λ _. u64)) yes (λ κs x w. refl), (Goes-gave_ref 𝓛 2 1 tt (plain (λ _. Span)), tt))))
    f.Key.name code.function (code.unfolded 𝓤 𝓛.H 𝓜 𝓡 wired)
    (λ κs. (rawptr_vals, (shr_vals, (uint_vals w64, (mut_vals, tt))))) (λ κs. (rawptr_Tells, (shr_Tells (named 0) κs.0 Chunk, (uint_Tells w64, (mut_Tells (named 1) κs.1.0 Span, tt))))) (λ κs qs bounds a n are.
    let κ0 = κs.0 in let q0 = qs.0 in
    let κ1 = κs.1.0 in let q1 = qs.1.0 in
    let chunk = a.1.0 in let chunk_vals = shr_vals chunk in
    let rank = a.1.1.0 in
    let out = a.1.1.1.0 in let out_vals = mut_vals out in
    let y : Ptr → W.Ghost = λ p. ((κs, qs, bounds, (p, (chunk, (rank, (out, tt)))), (rawptr_vals p, (chunk_vals, (uint_vals w64 rank, (out_vals, tt))))), n) in
    qed 𝓛 (((‵ (flft κ0 q0) ⊛ ‵ (flft κ1 q1) ⊛ ‵ ftrue) ⊛ ‵ (RawPtr.own_val a.0 (rawptr_vals a.0)) ⊛ ‵ ((ShrRef (named 0) κ0 Chunk).own_val chunk chunk_vals) ⊛ ‵ (u64.own_val rank (uint_vals w64 rank)) ⊛ ‵ ((MutRef (named 1) κ1 Span).own_val out out_vals) ⊛ ‵ ftrue) ∷ ‵ (lies_at R full_share a.0 n) ∷ []) ∵
    split ! $ split ! $ move ! (1 ∷ []) $ split ! $ move ! (1 ∷ []) $ drop ! $ move ! (2 ∷ []) $ split ! $ drop ! $ split ! $ move ! (1 ∷ []) $ split ! $ drop ! $ split ! $ move ! (1 ∷ []) $ drop ! $ move ! (4 ∷ []) $
    in_a_block ! a.0 (λ p. lies_at R full_share p n) (id⊢ 𝓤 _) (λ b o e.
    regoal ! (λ p. prop (WpFn 𝓤 𝓛.H 𝓣.C 𝓣.Λ code.function (rawptr_vals p ++ (chunk_vals ++ (uint_vals w64 rank ++ (out_vals ++ ([]))))) (W.post (y p)))) e refl $
    -- the parameters are stored, and the pointers followed: [memory; out; chunk; token 1; token 0]
    enter ! _ _ _ _ _ $ alloc_all ! (λ l. pass_all ! refl ((tt, tt), ((tt, tt), ((tt, record { fits = are.1.1.0.1 }), ((tt, tt), tt)))) $
    sets ! (of_opd ! (get ! refl)) refl (tt, tt) $ sets ! (addr ! (through ! refl (stop !))) refl (tt, tt) $
    sets ! (addr ! (through ! refl (stop !))) refl (tt, tt) $
    lft_new ! tt (λ α. move ! (1 ∷ 0 ∷ []) $
    let s : Bor declared.PartSlot = record { ref_ptr = (b, o); now = n } in
    use2 𝓛 (later ((‵ ((ShrRef (named 0) (α ∷ []) R).own_val s (vptr b o ∷ [])) ⊛ ‵ (flent (α ∷ []) (lies_at R full_share (block_ptr b o) n))) ⊛ ‵ (flft (α ∷ []) full_share)))
    (lends_shr 𝓛 R (named 0) (α ∷ []) full_share n b o R.lives (L.shares 𝓛 n) ((α ∷ [], full_share) ∷ []) (⊑_static (α ∷ [])) (λ x m. m)) $ await ! tt $ split ! $ split ! $
    -- lent: [the loan; what the lender keeps; α; out; chunk; token 1; token 0]
    let G = triple_of 𝓛 g.signature (g.spec 𝓛 𝓜.mem 𝓡.returns) in
    let z : G.Ghost = (((α ∷ [], (κ0, (κ1, tt))), (full_share, (q0, (q1, tt))), tt, (s, (chunk, (rank, (out, tt)))), (shr_vals s, (chunk_vals, (uint_vals w64 rank, (out_vals, tt))))), tt) in
    nothing ! $ move ! (4 ∷ 0 ∷ []) $ join ! $ owned ! u64 (Is u64) (uint_Makes 𝓛 w64) rank _ (refl, are.1.1.0.1) $ join ! $ move ! (4 ∷ 0 ∷ []) $ join ! $ move ! (1 ∷ 0 ∷ []) $ join ! $ nothing ! $ move ! (4 ∷ 0 ∷ []) $ join ! $ move ! (4 ∷ 0 ∷ []) $ join ! $ move ! (3 ∷ 0 ∷ []) $ join ! $ join ! $ nothing ! $ move ! (1 ∷ 0 ∷ []) $ join ! $
    -- the call
    use1 𝓛 (raw (G.pre z)) (id⊢ 𝓤 _) $
    calls_at ! (framed 𝓤 𝓛.H 𝓜 (tables 𝓤 𝓛.H 𝓜 𝓡 𝓡.env)) G (met 𝓤 𝓛 𝓜 𝓡 (code.calls-squall_c::parts::fresh 𝓡.env wired)) z
    (and_then ! (get ! refl) (and_then ! (get ! refl) (and_then ! (get ! refl) (and_then ! (get ! refl) (no_more !))))) (λ v.
    use1 𝓛 (later (some (λ (u : ℕ). ((‵ (flft (α ∷ []) full_share) ⊛ ‵ (flft κ0 q0) ⊛ ‵ (flft κ1 q1) ⊛ ‵ ftrue) ⊛ ‵ (u32.own_val u (v ∷ []))) ⊛
    some (λ (ws : Lasts g.ended z.0.0 z.0.3). ‵ (lasts g.ended z.0.0 z.0.3 ws) ⊛ raw (fact 𝓤 (PartFinds chunk.now rank n out.now ws.1.1.1.0 u)))))) (id⊢ 𝓤 _) $
    await ! tt $ pick ! (λ u. split ! $ split ! $ split ! $ move ! (1 ∷ []) $ split ! $ move ! (1 ∷ []) $ split ! $ move ! (1 ∷ []) $ drop ! $ move ! (2 ∷ []) $ lft_end ! tt $ move ! (3 ∷ []) $
    peeks ! u32 (Is u32) (shows 𝓛 u32) u (v ∷ []) (λ is. lands_as ! refl refl ((uint_Lawful 𝓛 w32).typed u _ is).0 $
    -- what the call said
    move ! (4 ∷ []) $ pick ! (λ ws. split ! $ move ! (1 ∷ []) $ heard ! _ (λ h0.
    fsplit ! $ drop ! $ fsplit ! $ drop ! $ fsplit ! $ drop ! $ fsplit ! $ move ! (1 ∷ []) $ drop ! $
    move ! (2 ∷ 5 ∷ []) $ lent_back ! tt $
    -- the loan is over: [memory; left of out; result; token 1; token 0]
    returns ! (look_at ! 0 refl) $ free_all ! refl $
    -- the end
    suffices ! _ (ends_at 𝓛 f.ended stayed c (y (block_ptr b o)) v u (tt, (tt, (tt, (ws.1.1.1.0, tt)))) (tt, (tt, (tt, (tt, tt))))) $
    nothing ! $ move ! (2 ∷ 0 ∷ []) $ join ! $ nothing ! $ join ! $ nothing ! $ join ! $ nothing ! $ join ! $ nothing ! $ move ! (4 ∷ 0 ∷ []) $ join ! $ move ! (4 ∷ 0 ∷ []) $ join ! $ keep ! (0 ∷ 1 ∷ 3 ∷ 2 ∷ []) $ group ! 3 $ frame ! $ says ! h0 $ done !)))))))))
