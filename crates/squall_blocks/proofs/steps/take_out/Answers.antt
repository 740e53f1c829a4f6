use Rattle.std.proofs.Common.{rules, ◌≡◌, ◌∙◌, sym, get_or, ◌-◌, ap, arith, drop, take, length, ◌<◌}
use Rattle.squall_blocks.proofs.Undoing.{taken_none, taken_more}
use Rattle.squall_blocks.proofs.steps.take_out.Goals as goal

pub loop-at-init : goal.loop-at-init
loop-at-init g c = (taken_none c.args.blocks.now.items c.in_ok-gone.gone.items c.args.first c.in_ok-gone.ensures.items, omega (arith, c.in_ok-gone.ensures.len, c.in_ok-gone.ensures.capacity), omega arith)

pub loop-at-preserved : goal.loop-at-preserved
loop-at-preserved g c =
    let within : c.loop-at.at < length c.loop-at.blocks.items = omega (arith, c.loop-at-test.true, c.requires.within, c.loop-at.invariant.0.len) in (
      taken_more c.args.blocks.now.items c.loop-at.blocks.items c.loop-at.gone.items c.push_reserved.new.self.items c.args.first c.loop-at.at c.replace-block.result c.replace-block.new.dest c.loop-at.invariant.0 within
          (c.replace-block.ensures.value ∙ c.index_mut.ensures.value ∙ ap (λ d. get_or c.loop-at.blocks.items c.loop-at.at d) (sym c.replace-block.ensures.value)) c.push_reserved.ensures.items,
      search rules,
      search rules,
    )

pub returns : goal.returns
returns g c =
    let t = c.loop-at.invariant.0 in
    let done : c.loop-at.at ≡ c.args.end = omega (arith, c.loop-at-test.false, c.loop-at.auto.at-end c.requires.order) in
    record {
      gone = t.gone_is ∙ ap (λ i. take (i - c.args.first) (drop c.args.first c.args.blocks.now.items)) done;
      front = t.front;
      behind = ap (λ i. drop i c.loop-at.blocks.items) (sym done) ∙ t.behind ∙ ap (λ i. drop i c.args.blocks.now.items) done;
      len = t.len;
      capacity = c.loop-at.invariant.2;
      err = tt;
    }
