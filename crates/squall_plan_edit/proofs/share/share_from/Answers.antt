use Rattle.std.proofs.Common.{◌≡◌, ◌≤◌, ℕ, length, sym, ap, ◌∙◌, arith, Some, refl}
use Rattle.std.specs.Prelude.{slice_index_or}
use Rattle.std.proofs.lemmas.Option.{none-some, same_Some}
use Rattle.std.proofs.lemmas.Grind.{get_or_default_zero}
use Rattle.squall_key.specs.Keys.{top}
use Rattle.squall_span.specs.Spans.{interval, span_at}
use Rattle.squall_plan_edit.specs.Shares.{share_of, end_of}
use Rattle.squall_plan_edit.proofs.Shares.{share_leg, some_span}
use Rattle.squall_plan_edit.proofs.share.share_from.Goals as goal

pub unreachable-requires : goal.unreachable-requires
unreachable-requires c =
    let reach : c.end_of-hi.result ≡ end_of c.args.below (length c.args.parts.now) (share_of c.args.below (length c.args.parts.now) c.args.at) =
    c.end_of-hi.ensures ∙ ap (λ (i : ℕ). end_of c.args.below (length c.args.parts.now) i) c.share_of-share.ensures.value in
    let some : span_at c.args.at c.end_of-hi.result ≡ Some (interval c.args.at c.end_of-hi.result) = rw (some_span c.args.below c.args.at c.args.parts.now c.end_of-hi.result c.requires.some c.requires.few c.requires.at reach) refl in
    none-some (interval c.args.at c.end_of-hi.result) (sym c.in-None.is ∙ c.new.ensures ∙ some)

pub returns : goal.returns
returns c =
    let reach : c.end_of-hi.result ≡ end_of c.args.below (length c.args.parts.now) (share_of c.args.below (length c.args.parts.now) c.args.at) =
    c.end_of-hi.ensures ∙ ap (λ (i : ℕ). end_of c.args.below (length c.args.parts.now) i) c.share_of-share.ensures.value in
    let some : span_at c.args.at c.end_of-hi.result ≡ Some (interval c.args.at c.end_of-hi.result) = rw (some_span c.args.below c.args.at c.args.parts.now c.end_of-hi.result c.requires.some c.requires.few c.requires.at reach) refl in
    let same : c.in-Some.span ≡ interval c.args.at c.end_of-hi.result = same_Some c.in-Some.span (interval c.args.at c.end_of-hi.result) (sym c.in-Some.is ∙ c.new.ensures ∙ some) in
    let zero : c.index-parts-share.result ≡ slice_index_or c.args.parts.now c.share_of-share.result 0 =
    c.index-parts-share.is ∙ get_or_default_zero c.args.parts.now c.share_of-share.result c.index-parts-share.result c.share_of-share.ensures.within in
    let is : c.index-parts-share.result ≡ slice_index_or c.args.parts.now (share_of c.args.below (length c.args.parts.now) c.args.at) 0 =
    zero ∙ ap (λ (i : ℕ). slice_index_or c.args.parts.now i 0) c.share_of-share.ensures.value in
    let high : c.end_of-hi.result ≤ top = omega (arith, c.rank.ensures.value, c.rank.ensures.high) in
    share_leg c.args.below c.args.at c.args.parts.now c.end_of-hi.result c.index-parts-share.result c.in-Some.span c.requires.some c.requires.few c.requires.at
    (omega (arith, c.get.ensures.value, c.get.ensures.below)) is high reach same
