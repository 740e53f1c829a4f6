use Rattle.std.proofs.Common.{sym, ◌∙◌, ap}
use Rattle.squall_cluster_desk.specs.Track.{Run}
use Rattle.squall_cluster_desk.proofs.Tracks.{adds_moves}
use Rattle.squall_cluster_desk.proofs.track.Prefix.add.Goals as goal

pub compare_exchange-found-requires : goal.compare_exchange-found-requires
compare_exchange-found-requires c =
    let h = c.track.invariant in
    let offer = c.plain-offer.ensures in
    let pen = c.no_pen-pen.ensures in
    let same = ap (λ (r : Run). r.book) c.self.view_is ∙ sym c.requires.book ∙ sym c.track.view_is in (
      ap (λ w. w.tracked) h,
      same,
      pen.0 ∙ same,
      offer.0,
      rw (ap (λ w. w.key) h, pen.1, offer.1, offer.3) (adds_moves c.self.inside.seen.log c.args.letter.now c.self.inside.count (sym c.self.invariant)),
    )
