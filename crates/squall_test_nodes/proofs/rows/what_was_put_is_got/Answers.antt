use Rattle.std.proofs.Common.{◌≡◌, ℕ, ◌==◌, List, [], ◌∷◌, ◌++◌, refl, ◌∙◌}
use Rattle.std.specs.Prelude.{map, Option}
use Rattle.std.proofs.lemmas.Bool.{eq-eqb, cond-true}
use Rattle.squall_protocol.specs.declared.event.Event.{Event}
use Rattle.squall_protocol.specs.declared.answer.Answer.{Answer}
use Rattle.squall_rows.specs.Rows.{RowsValue}
use Rattle.squall_rows.specs.RowSteps.{Act, Outcome, Plain, Ask, Answered, Ran, RowRun}
use Rattle.squall_rows.specs.OneMap.{AreMapReplies, first_map, with_row}
use Rattle.squall_test_nodes.specs.declared.rows.Command.{Command}
use Rattle.squall_test_nodes.specs.declared.rows.Command.TheVariants.{Get, Put}
use Rattle.squall_test_nodes.specs.Clients.{done, PutIsGot}
use Rattle.squall_test_nodes.proofs.rows.what_was_put_is_got.Goals as goal

-- events of the protocol leave the map alone
after_moves : (m : ℕ → Option ℕ) (w v : RowsValue (Option ℕ)) (q k b : ℕ) (s : Option ℕ) (events : List Event) (answers : List Answer)
    → RowRun done w (map Plain events ++ Ask q k b Get ∷ []) (map Answered answers ++ Ran s ∷ []) v
    → AreMapReplies done m (map Plain events ++ Ask q k b Get ∷ []) (map Answered answers ++ Ran s ∷ []) → s ≡ m k
after_moves m w v q k b s [] [] run replies = replies.0
after_moves m w v q k b s (e ∷ events) (a ∷ answers) run replies = after_moves m run.0 v q k b s events answers run.2 replies.1
after_moves m w v q k b s [] (a ∷ []) run replies = absurd run.2
after_moves m w v q k b s [] (a ∷ next ∷ answers) run replies = absurd run.2
after_moves m w v q k b s (e ∷ events) [] run replies = absurd run.1

pub returns : goal.returns
returns c old new routers w v p q k a b x r s events answers old_plan new_plan starts run =
    let first : ℕ → Option ℕ = first_map old w in
    let acts : List (Act Command) = map Plain events ++ Ask q k b Get ∷ [] in
    let outcomes : List (Outcome (Option ℕ)) = map Answered answers ++ Ran s ∷ [] in
    let replies : AreMapReplies done first (Ask p k a (Put x) ∷ acts) (Ran r ∷ outcomes) =
    c.one_map.ensures.replies done old new routers w v (Ask p k a (Put x) ∷ acts) (Ran r ∷ outcomes) old_plan new_plan starts run in
    after_moves (with_row first k x) run.0 v q k b s events answers run.2 replies.1 ∙ cond-true (k == k) x (first k) (eq-eqb k k refl)
