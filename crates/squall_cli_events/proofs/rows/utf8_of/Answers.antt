use Rattle.std.proofs.Common.{◌≡◌, ℕ, Bool, true, false, List, None, Some, refl, ap}
use Rattle.std.specs.Prelude.{if◌then◌else◌}
use Rattle.std.specs.Str.{is_utf8}
use Rattle.std.proofs.lemmas.Str.{IsUtf8-from_is_utf8, is_utf8-from_IsUtf8}
use Rattle.squall_cli_events.proofs.rows.utf8_of.Goals as goal

text_where : (is : Bool) (bytes text : List ℕ) → text ≡ bytes → is ≡ true → Some text ≡ (if is then Some bytes else None)
text_where true bytes text e h = ap Some e
text_where false bytes text e h = absurd (never h)
  where
    never : false ≡ true → ⊥
    never e = cc

none_where : (is : Bool) (bytes : List ℕ) → (is ≡ true → ⊥) → None ≡ (if is then Some bytes else None)
none_where true bytes h = absurd (h refl)
none_where false bytes h = refl

pub returns-in-Ok : goal.returns-in-Ok
returns-in-Ok c =
    text_where (is_utf8 c.args.bytes.now) c.args.bytes.now c.in-Ok.text.now c.in-Ok.ensures.cases.0 (is_utf8-from_IsUtf8 c.args.bytes.now c.in-Ok.ensures.cases.1)

pub returns-in-Err : goal.returns-in-Err
returns-in-Err c = none_where (is_utf8 c.args.bytes.now) c.args.bytes.now (λ is. c.in-Err.ensures.cases.0 (IsUtf8-from_is_utf8 c.args.bytes.now is))
