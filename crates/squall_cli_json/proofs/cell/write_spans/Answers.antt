use Rattle.std.proofs.Common.{◌≡◌, ◌++◌, map, sym, ap, ◌∙◌, append-nil}
use Rattle.std.proofs.lemmas.Result.{on_ok_weaker}
use Rattle.squall_cli_json.specs.Tokens.{tokens_of_each}
use Rattle.squall_cli_json.specs.Values.{json_of_span}
use Rattle.squall_cli_json.proofs.Streams.{listed}
use Rattle.squall_cli_json.proofs.cell.write_spans.Goals as goal

pub returns-clause-tokens : goal.returns-clause-tokens
returns-clause-tokens c =
    let begun = c.begin_array.new.self.tokens in
    let last = c.loop-span.writer.tokens in
    let all = map json_of_span c.args.set.now in
    let each : last ≡ begun ++ tokens_of_each all = sym (append-nil last) ∙ ap (λ ss. last ++ tokens_of_each (map json_of_span ss)) (sym c.in-None.ensures.steps.0) ∙ c.loop-span.invariant.0 in
    on_ok_weaker c.end_array.result (listed c.args.writer.now.tokens begun last c.end_array.new.self.tokens all c.in_ok-begin_array.ensures.ok each) c.end_array.ensures.ok
