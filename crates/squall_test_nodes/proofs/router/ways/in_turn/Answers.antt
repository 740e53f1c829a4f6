use Rattle.std.specs.Prelude.{List, ℕ, refl, [], ◌∷◌, ◌++◌}
use Rattle.std.proofs.Common.{subst, sym}
use Rattle.std.proofs.lemmas.List.{append-nil}
use Rattle.squall_wire.specs.Hearing.{FeedValue}
use Rattle.squall_router.specs.Routers.{RouterValue}
use Rattle.squall_headline.specs.Ways.{ByFrames, Leads, AreComing}
use Rattle.squall_test_nodes.proofs.Turns.{told_in_turn}
use Rattle.squall_test_nodes.proofs.router.ways.in_turn.Goals as goal

pub returns-clause-ways : goal.returns-clause-ways
returns-clause-ways c ss qs on beside =
    let front = c.args.one.0.now in
    let back = c.args.one.1.now in
    let head = c.args.other.0.now in
    let tail = c.args.other.1.now in
    let one = c.in_ok-hear_next.ensures.brings ss back (subst (λ (f : FeedValue). AreComing ss f (front ++ back)) (sym c.new-feed.ensures) on) in
    let two = c.in_ok-hear_next-2.ensures.brings qs tail (subst (λ (f : FeedValue). AreComing qs f (head ++ tail)) (sym c.new-beside.ensures) beside) in
    let three = c.in_ok-hear_next-3.ensures.brings one.others [] (subst (λ (s : List ℕ). AreComing one.others c.hear_next.new.feed s) (sym (append-nil back)) one.on) in
    let four = c.in_ok-hear_next-4.ensures.brings two.others [] (subst (λ (s : List ℕ). AreComing two.others c.hear_next-2.new.feed s) (sym (append-nil tail)) two.on) in
    let begun = subst (λ (r : RouterValue). Leads (ByFrames one.brought (front ∷ [])) r.board c.hear_next.new.router.board) c.in_ok-router.ensures one.leads in (
      ByFrames one.brought (front ∷ []) ∷ (ByFrames two.brought (head ∷ []) ∷ (ByFrames three.brought (back ∷ []) ∷ (ByFrames four.brought (tail ∷ []) ∷ []))),
      (c.hear_next.new.router.board, begun, (c.hear_next-2.new.router.board, two.leads, (c.hear_next-3.new.router.board, three.leads, (c.hear_next-4.new.router.board, four.leads, refl)))),
      told_in_turn ss qs one.brought one.others two.brought two.others three.brought three.others four.brought four.others one.all two.all three.all four.all
          (c.pieces_bring_messages.ensures.last three.others c.hear_next-3.new.feed three.on) (c.pieces_bring_messages.ensures.last four.others c.hear_next-4.new.feed four.on),
    )
