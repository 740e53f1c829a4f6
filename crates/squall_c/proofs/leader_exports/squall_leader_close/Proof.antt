-- The slot is moved out of the memory, which is a room again, and dropped.
use Rattle.squall_c.proofs.Steps.{[], ◌∷◌, ◌++◌, refl, ap, proved, full_share, id⊢, fat, ftrue, part_out, Val, vunit, tables, WpFn, ‵, raw, ◌⊛◌, some, later, prop, ◌$◌, ◌∵◌, !, qed, done, move, drop, use1, split, join, feq_i, feq_l, pick, await, regoal, suffices, group, enter, of_opd, unit_lit, load, look, stop, no_more, and_then, returns, alloc_all, pass_all, free_all, look_at, get, through, sets, lands_as, unit, yes, Is, shows, lone, Ptr, RawPtr, block_ptr, lies_at, room_at, in_a_block, rawptr_vals, rawptr_Tells, plain, nothing, peeks, only, calls_at, Lasts, lasts, on_entry, triple_of, framed, Stays, walk_of, stay_dropped, Goes-dropped, ends_at}
use Rattle.squall_c.specs.contracts.leaders.LeaderSlot.{the_row as R}
use Rattle.squall_c.proofs.leaders.LeaderSlot.TheLaws.{the_row_laws as L}
use Rattle.squall_c.specs.contracts.leader_exports.squall_leader_close as f
use Rattle.squall_c.proofs.leader_exports.squall_leader_close.Statement.{statement}
use Rattle.squall_c.proofs.leader_exports.squall_leader_close.Code as code
use Rattle.squall_c.specs.contracts.leaders.close_leader as g
use Rattle.squall_c.proofs.leaders.close_leader.Met.{met}

abbrev stayed : Stays f.ended.signature.params f.ended.kept
stayed = (stay_dropped _ yes, tt)

pub squall_leader_close_spec : {M : Type 1} → statement M
squall_leader_close_spec 𝓤 𝓛 𝓜 𝓡 wired =
    let c = f.clauses 𝓛 𝓜.mem 𝓡.returns in let W = walk_of 𝓛 f.ended stayed c in let 𝓣 = tables 𝓤 𝓛.H 𝓜 𝓡 𝓡.env in
    proved 𝓛 f.ended stayed c 𝓜 𝓡 (Goes-dropped 𝓛 0 (plain (λ _. RawPtr)) yes (λ κs x w. refl), tt)
    f.Key.name code.function (code.unfolded 𝓤 𝓛.H 𝓜 𝓡 wired)
    (λ κs. (rawptr_vals, tt)) (λ κs. (rawptr_Tells, tt)) (λ κs qs bounds a n are.
    let y : Ptr → W.Ghost = λ p. ((κs, qs, bounds, (p, tt), (rawptr_vals p, tt)), n) in
    qed 𝓛 (raw (on_entry 𝓛 f.signature κs qs a (y a.0).0.4) ∷ ‵ (lies_at R full_share a.0 n) ∷ []) ∵ drop ! $
    in_a_block ! a.0 (λ p. lies_at R full_share p n) (id⊢ 𝓤 _) (λ b o e.
    regoal ! (λ p. prop (WpFn 𝓤 𝓛.H 𝓣.C 𝓣.Λ code.function (rawptr_vals p ++ []) (W.post (y p)))) e refl $
    use1 𝓛 (some (λ (w : Val). ‵ (fat full_share (lone R.mir) b o w) ⊛ ‵ (R.own_val n (w ∷ [])))) (part_out 𝓛 R refl full_share n b o) $ pick ! (λ w. split ! $
    -- [the memory; what the slot owns]
    move ! (1 ∷ []) $ peeks ! R (Is R) (shows 𝓛 R) n (w ∷ []) (λ is. let good = ((L.lawful 𝓛).typed n (w ∷ []) is).0 in move ! (1 ∷ []) $
    enter ! _ _ _ _ _ $ alloc_all ! (λ l. pass_all ! refl ((tt, tt), tt) $
    sets ! (of_opd ! (get ! refl)) refl (tt, tt) $
    sets ! (of_opd ! (load ! (through ! refl (stop !)) (look ! 0 refl))) refl good $
    let G = triple_of 𝓛 g.signature (g.spec 𝓛 𝓜.mem 𝓡.returns) in
    let z : G.Ghost = ((tt, tt, tt, (n, tt), (w ∷ [], tt)), tt) in
    nothing ! $ move ! (2 ∷ 0 ∷ []) $ join ! $ nothing ! $ join ! $ nothing ! $ move ! (1 ∷ 0 ∷ []) $ join ! $ use1 𝓛 (raw (G.pre z)) (id⊢ 𝓤 _) $
    calls_at ! (framed 𝓤 𝓛.H 𝓜 (tables 𝓤 𝓛.H 𝓜 𝓡 𝓡.env)) G (met 𝓤 𝓛 𝓜 𝓡 (code.calls-squall_c::leaders::close_leader 𝓡.env wired)) z
    (and_then ! (get ! refl) (no_more !)) (λ v.
    use1 𝓛 (later (some (λ (u : Unit {0}). (‵ ftrue ⊛ ‵ (unit.own_val u (v ∷ []))) ⊛
    some (λ (ws : Lasts g.ended tt (n, tt)). ‵ (lasts g.ended tt (n, tt) ws) ⊛ ‵ ftrue)))) (id⊢ 𝓤 _) $
    await ! tt $ pick ! (λ u. split ! $ split ! $ drop ! $ feq_l ! (λ is_unit. drop ! $
    lands_as ! (ap only is_unit) refl (tt, tt) $
    sets ! (of_opd ! (unit_lit !)) refl (tt, tt) $
    -- [the memory, from which the slot was taken]
    use1 𝓛 (‵ (room_at R (block_ptr b o))) (𝓛.laws.at_room (lone R.mir) b o w) $
    returns ! (look_at ! 0 refl) $ free_all ! refl $
    suffices ! _ (ends_at 𝓛 f.ended stayed c (y (block_ptr b o)) vunit tt (tt, tt) (tt, tt)) $
    feq_i ! _ (vunit ∷ []) _ refl $ nothing ! $ nothing ! $ join ! $ nothing ! $ group ! 3 $ done !))))))))
