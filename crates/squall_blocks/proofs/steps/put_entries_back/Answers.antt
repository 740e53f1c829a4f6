use Rattle.std.proofs.Common.{◌+◌, ◌<◌, ◌∙◌, [], ◌∷◌, ap, refl, get_or, set, length, arith}
use Rattle.std.specs.List.{splice}
use Rattle.std.proofs.lemmas.List.{get_or_read}
use Rattle.squall_blocks.specs.Blocks.{put}
use Rattle.squall_blocks.specs.Steps.{OldEntriesValue}
use Rattle.squall_blocks.proofs.Replacing.{one_is}
use Rattle.squall_blocks.proofs.Preparing.{put_is}
use Rattle.squall_blocks.proofs.steps.put_entries_back.Goals as goal

pub returns-clause-lasts : goal.returns-clause-lasts
returns-clause-lasts g c =
    let ls = c.args.lasts.now.items in
    let at = c.old.inside.at in
    let within : at < length ls = omega (arith, c.requires.within.lasts, ap (λ (s : OldEntriesValue _). s.at) c.old.view_is) in
    one_is ls (set ls at c.old.inside.last) at (at + 1) c.old.inside.last within refl refl ∙ ap (λ (s : OldEntriesValue _). splice ls s.at (s.at + 1) (s.last ∷ [])) c.old.view_is

pub returns-clause-blocks : goal.returns-clause-blocks
returns-clause-blocks g c =
    let bs = c.args.blocks.now.items in
    let at = c.old.inside.at in
    let within : at < length bs = omega (arith, c.requires.within.blocks, ap (λ (s : OldEntriesValue _). s.at) c.old.view_is) in
    let read = get_or_read bs at c.index_mut-block.result.now within c.index_mut-block.ensures.value [] in
    put_is bs (set bs at c.replace_by_fewer.new.self) at c.replace_by_fewer.new.self within refl
    ∙ ap (put bs at) (c.replace_by_fewer.ensures ∙ ap (λ t. splice t c.old.inside.first c.old.inside.end c.old.inside.gone) read)
    ∙ ap (λ (s : OldEntriesValue _). put bs s.at (splice (get_or bs s.at []) s.first s.end s.gone)) c.old.view_is
