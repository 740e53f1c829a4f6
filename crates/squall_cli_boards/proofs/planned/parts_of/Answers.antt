use Rattle.std.proofs.Common.{◌∙◌, string_bytes, sym, ap, Err}
use Rattle.squall_cli_boards.proofs.Parts.{three_taken, few_words, some_words}
use Rattle.squall_cli_boards.proofs.planned.parts_of.Goals as goal

pub loop-rest-preserved : goal.loop-rest-preserved
loop-rest-preserved c =
    three_taken string_bytes c.loop-rest.rest.now c.from-item.result c.to-item.result c.part-item.result
    c.as_str.result.now c.as_str-in-len3-up.result.now c.as_str-in-len3-up-2.result.now c.loop-rest.parts.items c.push.new.self.items c.in-Ok.range _
    c.in_ok-push-in-Ok.ensures.items c.in-len3-up.len_at_least c.from-item.is c.to-item.is c.part-item.is
    c.as_str.ensures.value c.as_str-in-len3-up.ensures.value c.as_str-in-len3-up-2.ensures.value c.in-Ok.ensures c.loop-rest.invariant

pub returns : goal.returns
returns c =
    ap Err c.all.ensures ∙ few_words string_bytes c.loop-rest.rest.now c.loop-rest.parts.items _ c.in_default.len_below (some_words c.loop-rest.rest.now (sym c.if-is_empty.ensures)) c.loop-rest.invariant
