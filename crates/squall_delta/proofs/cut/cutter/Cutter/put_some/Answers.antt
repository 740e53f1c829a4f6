use Rattle.std.proofs.Common.{ℕ, map, ◌+◌, ◌≤◌, sym, ap, subst, ◌∙◌}
use Rattle.squall_delta.specs.Items.{loaded}
use Rattle.squall_delta.specs.Cutting.{cut_with, roomy}
use Rattle.squall_delta.specs.PieceStepLaws.{feeding_next, feeding_on}
use Rattle.squall_delta.proofs.Slices.{has_room, map_split}
use Rattle.squall_delta.proofs.cut.cutter.Cutter.put_some.Goals as goal

pub spans_with_room-requires : goal.spans_with_room-requires
spans_with_room-requires c = (has_room c.args.self.now.most c.make_room.new.self.most c.args.self.now.finished.items c.make_room.new.self.finished.items c.args.self.now.piece c.make_room.new.self.piece c.args.self.now.length c.make_room.new.self.length c.args.self.now.has_issues c.make_room.new.self.has_issues c.args.self.now.last c.make_room.new.self.last c.args.place c.args.spans.now
    c.requires.wide (c.in_ok-make_room.ensures.fed ∙ ap (λ (t : ℕ). roomy (cut_with c.args.self.now.most c.args.self.now.finished.items c.args.self.now.piece) (c.args.self.now.length + t)) c.bytes_with_cell.ensures) c.requires.measured c.in_ok-make_room.ensures.measured c.requires.next c.requires.some).0

pub put_run-requires-clause-next : goal.put_run-requires-clause-next
put_run-requires-clause-next c =
    let room = has_room c.args.self.now.most c.make_room.new.self.most c.args.self.now.finished.items c.make_room.new.self.finished.items c.args.self.now.piece c.make_room.new.self.piece c.args.self.now.length c.make_room.new.self.length c.args.self.now.has_issues c.make_room.new.self.has_issues c.args.self.now.last c.make_room.new.self.last c.args.place c.args.spans.now
    c.requires.wide (c.in_ok-make_room.ensures.fed ∙ ap (λ (t : ℕ). roomy (cut_with c.args.self.now.most c.args.self.now.finished.items c.args.self.now.piece) (c.args.self.now.length + t)) c.bytes_with_cell.ensures) c.requires.measured c.in_ok-make_room.ensures.measured c.requires.next c.requires.some in
    feeding_next (cut_with c.args.self.now.most c.args.self.now.finished.items c.args.self.now.piece) (cut_with c.make_room.new.self.most c.make_room.new.self.finished.items c.make_room.new.self.piece) (map (loaded c.args.place) c.args.spans.now) (map (loaded c.args.place) c.args.spans.now) (map (loaded c.args.place) c.split_at.result.0.now) (map (loaded c.args.place) c.split_at.result.1.now) (map_split c.args.place (c.min-count.result) c.args.spans.now c.split_at.result.0.now c.split_at.result.1.now c.split_at.ensures.front c.split_at.ensures.back) room.1

pub put_run-requires-clause-wide : goal.put_run-requires-clause-wide
put_run-requires-clause-wide c =
    let room = has_room c.args.self.now.most c.make_room.new.self.most c.args.self.now.finished.items c.make_room.new.self.finished.items c.args.self.now.piece c.make_room.new.self.piece c.args.self.now.length c.make_room.new.self.length c.args.self.now.has_issues c.make_room.new.self.has_issues c.args.self.now.last c.make_room.new.self.last c.args.place c.args.spans.now
    c.requires.wide (c.in_ok-make_room.ensures.fed ∙ ap (λ (t : ℕ). roomy (cut_with c.args.self.now.most c.args.self.now.finished.items c.args.self.now.piece) (c.args.self.now.length + t)) c.bytes_with_cell.ensures) c.requires.measured c.in_ok-make_room.ensures.measured c.requires.next c.requires.some in
    subst (λ (k : ℕ). 41 ≤ k) (sym room.1.most) c.requires.wide

pub returns-clause-feeding : goal.returns-clause-feeding
returns-clause-feeding c =
    let room = has_room c.args.self.now.most c.make_room.new.self.most c.args.self.now.finished.items c.make_room.new.self.finished.items c.args.self.now.piece c.make_room.new.self.piece c.args.self.now.length c.make_room.new.self.length c.args.self.now.has_issues c.make_room.new.self.has_issues c.args.self.now.last c.make_room.new.self.last c.args.place c.args.spans.now
    c.requires.wide (c.in_ok-make_room.ensures.fed ∙ ap (λ (t : ℕ). roomy (cut_with c.args.self.now.most c.args.self.now.finished.items c.args.self.now.piece) (c.args.self.now.length + t)) c.bytes_with_cell.ensures) c.requires.measured c.in_ok-make_room.ensures.measured c.requires.next c.requires.some in
    feeding_on (cut_with c.args.self.now.most c.args.self.now.finished.items c.args.self.now.piece) (cut_with c.make_room.new.self.most c.make_room.new.self.finished.items c.make_room.new.self.piece) (cut_with c.put_run.new.self.most c.put_run.new.self.finished.items c.put_run.new.self.piece) (map (loaded c.args.place) c.args.spans.now) (map (loaded c.args.place) c.args.spans.now) (map (loaded c.args.place) c.split_at.result.0.now) (map (loaded c.args.place) c.split_at.result.1.now) (map_split c.args.place (c.min-count.result) c.args.spans.now c.split_at.result.0.now c.split_at.result.1.now c.split_at.ensures.front c.split_at.ensures.back) c.in_ok-put_run.ensures.fed room.1
