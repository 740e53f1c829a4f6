use Rattle.std.proofs.lemmas.Result.{err_from_is_err_and, on_ok_weaker}
use Rattle.squall_delta.specs.declared.cut.fault.CutFault.TheVariants.{TooLong}
use Rattle.squall_delta.proofs.Slices.{passed_on, after_too_long}
use Rattle.std.proofs.Common.{map, sym, subst, ◌∙◌}
use Rattle.squall_delta.specs.Items.{loaded, flag_items}
use Rattle.squall_delta.specs.Cutting.{AreNext, IsFed, HasTooLong, cut_with}
use Rattle.squall_delta.specs.PieceStepLaws.{next_second, both_fed, first_too_long}
use Rattle.squall_delta.proofs.cut.cutter.Cutter.put_cell.Goals as goal

pub put_spans-requires-clause-next : goal.put_spans-requires-clause-next
put_spans-requires-clause-next c = subst (λ l. AreNext c.put_flag.new.self.piece (map (loaded c.args.place) l)) (sym (c.spans.ensures.value ∙ c.in_ok-list.ensures))
    (next_second (cut_with c.args.self.now.most c.args.self.now.finished.items c.args.self.now.piece) (cut_with c.put_flag.new.self.most c.put_flag.new.self.finished.items c.put_flag.new.self.piece) (flag_items c.args.place c.args.cell.now.second) (map (loaded c.args.place) c.args.cell.now.first) (subst (λ t. IsFed (cut_with c.args.self.now.most c.args.self.now.finished.items c.args.self.now.piece) (cut_with c.put_flag.new.self.most c.put_flag.new.self.finished.items c.put_flag.new.self.piece) (flag_items c.args.place t)) c.get.ensures c.in_ok-put_flag.ensures.fed) c.requires.next)

pub returns-in_err-put_flag-clause-long : goal.returns-in_err-put_flag-clause-long
returns-in_err-put_flag-clause-long c = λ e.
    let p = err_from_is_err_and c.from_residual.result c.from_residual.ensures.1 in
    first_too_long c.args.self.now.most (flag_items c.args.place c.args.cell.now.second) (map (loaded c.args.place) c.args.cell.now.first) (subst (λ t. HasTooLong c.args.self.now.most (flag_items c.args.place t)) c.get.ensures (c.put_flag.ensures.long (passed_on c.put_flag.result c.from_residual.result c.in_err-put_flag.field-0.0 p.0 TooLong c.in_err-put_flag.was p.1 p.2 e)))

pub returns-clause-fed : goal.returns-clause-fed
returns-clause-fed c = on_ok_weaker c.put_spans.result (λ f. both_fed (cut_with c.args.self.now.most c.args.self.now.finished.items c.args.self.now.piece) (cut_with c.put_flag.new.self.most c.put_flag.new.self.finished.items c.put_flag.new.self.piece) (cut_with c.put_spans.new.self.most c.put_spans.new.self.finished.items c.put_spans.new.self.piece) (flag_items c.args.place c.args.cell.now.second) (map (loaded c.args.place) c.args.cell.now.first) (subst (λ t. IsFed (cut_with c.args.self.now.most c.args.self.now.finished.items c.args.self.now.piece) (cut_with c.put_flag.new.self.most c.put_flag.new.self.finished.items c.put_flag.new.self.piece) (flag_items c.args.place t)) c.get.ensures c.in_ok-put_flag.ensures.fed) (subst (λ l. IsFed (cut_with c.put_flag.new.self.most c.put_flag.new.self.finished.items c.put_flag.new.self.piece) (cut_with c.put_spans.new.self.most c.put_spans.new.self.finished.items c.put_spans.new.self.piece) (map (loaded c.args.place) l)) (c.spans.ensures.value ∙ c.in_ok-list.ensures) f)) c.put_spans.ensures.fed

pub returns-clause-long : goal.returns-clause-long
returns-clause-long c = λ e. after_too_long (cut_with c.args.self.now.most c.args.self.now.finished.items c.args.self.now.piece) (cut_with c.put_flag.new.self.most c.put_flag.new.self.finished.items c.put_flag.new.self.piece) (flag_items c.args.place c.args.cell.now.second) (map (loaded c.args.place) c.args.cell.now.first) (subst (λ t. IsFed (cut_with c.args.self.now.most c.args.self.now.finished.items c.args.self.now.piece) (cut_with c.put_flag.new.self.most c.put_flag.new.self.finished.items c.put_flag.new.self.piece) (flag_items c.args.place t)) c.get.ensures c.in_ok-put_flag.ensures.fed) (subst (λ l. HasTooLong c.put_flag.new.self.most (map (loaded c.args.place) l)) (c.spans.ensures.value ∙ c.in_ok-list.ensures) (c.put_spans.ensures.long e))
