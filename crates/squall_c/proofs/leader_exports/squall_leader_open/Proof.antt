-- The slot that `open_leader` makes is written into the room.
use Rattle.squall_c.proofs.Steps.{[], ◌∷◌, ◌++◌, refl, w32, proved, Goes-blank, full_share, id⊢, ftrue, flft, fex, fsep, part_in, named, vunit, fact, tables, WpFn, ‵, raw, ◌⊛◌, some, later, prop, ◌$◌, ◌∵◌, !, qed, done, move, keep, drop, use1, use2, split, join, fjoin, fpack, feq_i, pick, await, regoal, suffices, group, enter, assigns, of_opd, unit_lit, init, stop, no_more, and_then, returns, alloc_all, pass_all, free_all, look_at, get, through, sets, lands_as, u8, u32, SliceRefOf, yes, Is, shows, uint_vals, uint_Tells, uint_Makes, Ptr, RawPtr, block_ptr, lies_at, room_at, in_a_block, rawptr_vals, rawptr_Tells, Slot, plain, ShrSlice, shr_slice_vals, shr_slice_Tells, shr_slice_Lawful, nothing, owned, heard, peeks, calls_at, Lasts, lasts, triple_of, framed, Stays, walk_of, stay_dropped, Goes-dropped, ends_at}
use Rattle.std.specs.contracts.alloc.Global as heap
use Rattle.std.proofs.alloc.Global.TheLaws as heap_laws
use Rattle.squall_c.specs.declared.leaders.LeaderSlot as made
use Rattle.squall_c.specs.contracts.leaders.LeaderSlot.{the_row as V}
use Rattle.squall_c.proofs.leaders.LeaderSlot.TheLaws.{the_row_laws as LV}
use Rattle.squall_c.specs.LeaderSlots.{IsLeaderOpened}
use Rattle.squall_c.specs.contracts.leader_exports.squall_leader_open as f
use Rattle.squall_c.proofs.leader_exports.squall_leader_open.Statement.{statement}
use Rattle.squall_c.proofs.leader_exports.squall_leader_open.Code as code
use Rattle.squall_c.specs.contracts.leaders.open_leader as g
use Rattle.squall_c.proofs.leaders.open_leader.Met.{met}

abbrev Text : Slot 1
Text = SliceRefOf (0 ∷ []) tt (plain (λ _. u8)) (λ _. tt)

abbrev stayed : Stays f.ended.signature.params f.ended.kept
stayed = (stay_dropped _ yes, (stay_dropped Text yes, (stay_dropped _ yes, (stay_dropped _ yes, tt))))

pub squall_leader_open_spec : {M : Type 1} → statement M
squall_leader_open_spec 𝓤 𝓛 𝓜 𝓡 wired =
    let c = f.clauses 𝓛 𝓜.mem 𝓡.returns in let W = walk_of 𝓛 f.ended stayed c in let 𝓣 = tables 𝓤 𝓛.H 𝓜 𝓡 𝓡.env in
    proved 𝓛 f.ended stayed c 𝓜 𝓡 (Goes-blank 𝓛 1 (plain (λ _. heap.the_row)) yes (λ κs x w. tt), (Goes-dropped 𝓛 1 Text yes (λ κs x w. refl), (Goes-dropped 𝓛 1 (plain (λ _. u32)) yes (λ κs x w. refl), (Goes-dropped 𝓛 1 (plain (λ _. RawPtr)) yes (λ κs x w. refl), tt))))
    f.Key.name code.function (code.unfolded 𝓤 𝓛.H 𝓜 𝓡 wired)
    (λ κs. ((λ a. heap_laws.lowers.lowered a ∷ []), (shr_slice_vals, (uint_vals w32, (rawptr_vals, tt))))) (λ κs. (heap_laws.lowers.val_is, (shr_slice_Tells (named 0) κs.0 u8, (uint_Tells w32, (rawptr_Tells, tt))))) (λ κs qs bounds a n are.
    let κ0 = κs.0 in let q0 = qs.0 in
    let alloc = a.0 in let alloc_vals = heap_laws.lowers.lowered alloc ∷ [] in
    let plan = a.1.0 in let plan_vals = shr_slice_vals plan in
    let last = a.1.1.0 in
    let y : Ptr → W.Ghost = λ p. ((κs, qs, bounds, (alloc, (plan, (last, (p, tt)))), (alloc_vals, (plan_vals, (uint_vals w32 last, (rawptr_vals p, tt))))), n) in
    qed 𝓛 (((‵ (flft κ0 q0) ⊛ ‵ ftrue) ⊛ ‵ (heap.the_row.own_val alloc alloc_vals) ⊛ ‵ ((ShrSlice (named 0) κ0 u8).own_val plan plan_vals) ⊛ ‵ (u32.own_val last (uint_vals w32 last)) ⊛ ‵ (RawPtr.own_val a.1.1.1.0 (rawptr_vals a.1.1.1.0)) ⊛ ‵ ftrue) ∷ ‵ (room_at V a.1.1.1.0) ∷ []) ∵
    split ! $ split ! $ move ! (1 ∷ []) $ drop ! $ move ! (1 ∷ []) $ split ! $ move ! (1 ∷ []) $ split ! $ move ! (1 ∷ []) $ split ! $ drop ! $ split ! $ drop ! $ drop ! $ move ! (3 ∷ []) $
    in_a_block ! a.1.1.1.0 (λ p. room_at V p) (id⊢ 𝓤 _) (λ b o e.
    regoal ! (λ p. prop (WpFn 𝓤 𝓛.H 𝓣.C 𝓣.Λ code.function (alloc_vals ++ (plan_vals ++ (uint_vals w32 last ++ (rawptr_vals p ++ ([]))))) (W.post (y p)))) e refl $
    -- the parameters are stored, and the pointers followed: [room; plan; alloc; token 0]
    enter ! _ _ _ _ _ $ alloc_all ! (λ l. pass_all ! refl (((heap_laws.the_row_laws.lawful 𝓛).typed alloc alloc_vals are.0).0, (((shr_slice_Lawful 𝓛 (named 0) κ0 u8).typed plan plan_vals are.1.0).0, ((tt, record { fits = are.1.1.0.1 }), ((tt, tt), tt)))) $
    sets ! (of_opd ! (get ! refl)) refl (tt, tt) $
    -- the arguments: [room; plan; alloc; token 0]
    let G = triple_of 𝓛 g.signature (g.spec 𝓛 𝓜.mem 𝓡.returns) in
    let z : G.Ghost = (((κ0, tt), (q0, tt), tt, (alloc, (plan, (last, tt))), (alloc_vals, (plan_vals, (uint_vals w32 last, tt)))), tt) in
    nothing ! $ owned ! u32 (Is u32) (uint_Makes 𝓛 w32) last _ (refl, are.1.1.0.1) $ join ! $ move ! (2 ∷ 0 ∷ []) $ join ! $ move ! (2 ∷ 0 ∷ []) $ join ! $ nothing ! $ move ! (3 ∷ 0 ∷ []) $ join ! $ join ! $ nothing ! $ move ! (1 ∷ 0 ∷ []) $ join ! $
    -- the call
    use1 𝓛 (raw (G.pre z)) (id⊢ 𝓤 _) $
    calls_at ! (framed 𝓤 𝓛.H 𝓜 (tables 𝓤 𝓛.H 𝓜 𝓡 𝓡.env)) G (met 𝓤 𝓛 𝓜 𝓡 (code.calls-squall_c::leaders::open_leader 𝓡.env wired)) z
    (and_then ! (get ! refl) (and_then ! (get ! refl) (and_then ! (get ! refl) (no_more !)))) (λ v.
    use1 𝓛 (later (some (λ (u : made.LeaderSlot). ((‵ (flft κ0 q0) ⊛ ‵ ftrue) ⊛ ‵ (V.own_val u (v ∷ []))) ⊛
    some (λ (ws : Lasts g.ended z.0.0 z.0.3). ‵ (lasts g.ended z.0.0 z.0.3 ws) ⊛ raw (fact 𝓤 (IsLeaderOpened plan.now last u)))))) (id⊢ 𝓤 _) $
    await ! tt $ pick ! (λ u. split ! $ split ! $ split ! $ move ! (1 ∷ []) $ drop ! $ move ! (1 ∷ []) $
    peeks ! V (Is V) (shows 𝓛 V) u (v ∷ []) (λ is. let good = ((LV.lawful 𝓛).typed u (v ∷ []) is).0 in
    lands_as ! refl refl good $
    -- what the call said
    move ! (2 ∷ []) $ pick ! (λ ws. split ! $ move ! (1 ∷ []) $ heard ! _ (λ h0.
    drop ! $
    -- made: [result; token 0; room]
    assigns ! (of_opd ! (get ! refl)) (through ! refl (stop !)) (init ! 2 refl good) $
    sets ! (of_opd ! (unit_lit !)) refl (tt, tt) $
    returns ! (look_at ! 0 refl) $ free_all ! refl $
    move ! (2 ∷ 0 ∷ []) $ use2 𝓛 (‵ (lies_at V full_share (block_ptr b o) u)) (part_in 𝓛 V refl full_share u b o v) $
    -- what lies in the room
    nothing ! $ fpack ! (IsLeaderOpened plan.now last u) (λ _. ftrue) h0 $ move ! (1 ∷ 0 ∷ []) $ fjoin ! $
    fpack ! made.LeaderSlot (λ now. fsep (lies_at V full_share (block_ptr b o) now) (fex (IsLeaderOpened plan.now last now) (λ _. ftrue))) u $
    -- the end
    suffices ! _ (ends_at 𝓛 f.ended stayed c (y (block_ptr b o)) vunit tt (tt, (tt, (tt, (tt, tt)))) (tt, (tt, (tt, (tt, tt))))) $
    feq_i ! _ (vunit ∷ []) _ refl $ nothing ! $ nothing ! $ join ! $ nothing ! $ join ! $ nothing ! $ join ! $ nothing ! $ join ! $ nothing ! $ move ! (4 ∷ 0 ∷ []) $ join ! $ keep ! (0 ∷ 1 ∷ 2 ∷ 3 ∷ []) $ group ! 3 $ done !))))))))
