use Rattle.std.proofs.Common.{◌≡◌, ◌==◌, ◌<◌, ◌^◌, true, false, get_or, drop, sym, ap, subst, ◌∙◌}
use Rattle.std.specs.Option.{option_and_then}
use Rattle.std.specs.Prelude.{SomeIff}
use Rattle.fast_float.specs.Text.{IsInteger, digits_of, scan}
use Rattle.serde_json.specs.Find.{as_u64}
use Rattle.serde_json.specs.Read.{number_of, number_from}
use Rattle.squall_plan.proofs.Numbers.{whole_unsigned, whole_negative}
use Rattle.squall_plan.proofs.tape.whole_in.Goals as goal

pub returns-then-has_minus : goal.returns-then-has_minus
unfolding number_of
returns-then-has_minus c =
    let s = c.as_bytes-bytes.result.now in
    let signed : (get_or s 0 0 == 45) ≡ true = sym c.if-has_minus.ensures.value in
    let read : number_from true (scan (drop 1 s)) ≡ number_of s = rw signed in
    sym (whole_negative (scan (drop 1 s))) ∙ ap (option_and_then as_u64) (read ∙ ap number_of c.as_bytes-bytes.ensures.value)

pub returns-else-has_minus : goal.returns-else-has_minus
unfolding number_of
returns-else-has_minus c =
    let s = c.as_bytes-bytes.result.now in
    let unsigned : (get_or s 0 0 == 45) ≡ false = sym c.if-has_minus.ensures.value in
    let read : number_from false (scan s) ≡ number_of s = rw unsigned in
    whole_unsigned (scan s) c.to_u64.result (subst (λ p. SomeIff c.to_u64.result (IsInteger p × (digits_of p < 2 ^ 64)) (digits_of p)) c.scan.ensures.parts c.to_u64.ensures) ∙ ap (option_and_then as_u64) (read ∙ ap number_of c.as_bytes-bytes.ensures.value)
