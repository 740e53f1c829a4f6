use Rattle.std.proofs.Common.{◌≡◌, None, option_map, ◌∙◌, sym, ap, arith}
use Rattle.std.specs.Option.{option_and_then}
use Rattle.serde_json.specs.Find.{as_u64}
use Rattle.serde_json.specs.Read.{number_of}
use Rattle.squall_plan.proofs.Tapes.{at_data, number_is}
use Rattle.squall_plan.proofs.tape.read_whole.Goals as goal

pub returns-in_err-as_number : goal.returns-in_err-as_number
returns-in_err-as_number c d s =
    let gone : c.from_residual.result ≡ None = grind arith in
    gone ∙ ap (λ o. option_and_then as_u64 (option_and_then number_of o)) (ap (option_map (λ x. x.now)) (sym c.in_err-as_number.was) ∙ c.as_number.ensures s.0 s.1) ∙ ap (option_and_then as_u64) (at_data _ _ d s.2 (number_is s.0))

pub returns : goal.returns
returns c d s =
    c.whole_in.ensures ∙ ap (λ o. option_and_then as_u64 (option_and_then number_of o)) (ap (option_map (λ x. x.now)) (sym c.in_ok-as_number.was) ∙ c.as_number.ensures s.0 s.1) ∙ ap (option_and_then as_u64) (at_data _ _ d s.2 (number_is s.0))
