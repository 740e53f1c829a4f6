-- What was drawn, step by step.
use Rattle.std.proofs.Common.{◌≡◌, ◌⊎◌, inl, inr, ℕ, List, ◌++◌, take, drop, Bool, true, false, Result, Ok, Err, refl, [], sym, ap, subst, ◌∙◌}
use Rattle.std.proofs.lemmas.List.{append_assoc, take-append-drop}
use Rattle.std.proofs.KnownBytes.{Appends-trans}
use Rattle.std.specs.Prelude.{OnOk, OnErr, is_ok, codes}
use Rattle.squall_cli_device.specs.States.{SinkState, TookBytes, OutputFails, NoWriteFails}
use Rattle.squall_cli_lines.specs.Script.{IsPrefix}
use Rattle.squall_cli_lines.specs.Heeding.{Says}
use Rattle.squall_cli_watch.specs.BarLines.{IsDrawn, Adds, Ends}

-- a text was sent as far as the result says
pub drawn_as : {E : Type 0} (r : Result Unit E) (on : Bool) (old new : SinkState) (text : List ℕ) → on ≡ is_ok r
    → OnOk r (TookBytes old new text) → OnErr r ((n : ℕ) × TookBytes old new (take n text)) → OnOk r (NoWriteFails old new) → OnErr r (OutputFails old new) → IsDrawn on old new text
drawn_as (Ok u) on old new text is ok err fine fails = subst (λ b. IsDrawn b old new text) (sym is) (ok, fine)
drawn_as (Err e) on old new text is ok err fine fails =
    subst (λ b. IsDrawn b old new text) (sym is) (take err.0 text, err.1, (drop err.0 text, sym (take-append-drop err.0 text)), fails)

pub added_as : {E : Type 0} (m : Bool) (r : Result Unit E) (on : Bool) (old new : SinkState) (text : List ℕ) → m ≡ true → on ≡ is_ok r
    → OnOk r (TookBytes old new text) → OnErr r ((n : ℕ) × TookBytes old new (take n text)) → OnOk r (NoWriteFails old new) → OnErr r (OutputFails old new) → Adds m on old new text
added_as m r on old new text before is ok err fine fails = subst (λ b. Adds b on old new text) (sym before) (drawn_as r on old new text is ok err fine fails)

-- the front of a text is one of a longer text
front_of : (said text more : List ℕ) → IsPrefix said text → IsPrefix said (text ++ more)
front_of said text more p = (p.0 ++ more, ap (λ w. w ++ more) p.1 ∙ append_assoc said p.0 more)

-- a text was drawn, and then another was added
pub drawn_then : (m on : Bool) (a b c : SinkState) (text more : List ℕ) → IsDrawn m a b text → Adds m on b c more → IsDrawn on a c (text ++ more)
drawn_then true true a b c text more d e = (
  Appends-trans a.contents b.contents c.contents text more d.0 e.0,
  (e.1.0 ∙ d.1.0, e.1.1 ∙ d.1.1),
)
drawn_then true false a b c text more d e = (
  text ++ e.0,
  Appends-trans a.contents b.contents c.contents text e.0 d.0 e.1,
  (e.2.0, ap (λ w. text ++ w) e.2.1 ∙ sym (append_assoc text e.0 e.2.0)),
  rw (sym d.1.0, sym d.1.1) e.3,
)
drawn_then false on a b c text more d e =
    subst (λ t. IsDrawn t a c (text ++ more)) (sym e.0) (subst (λ s. IsDrawn false a s (text ++ more)) (sym e.1) (d.0, d.1, front_of d.0 text more d.2, d.3))

pub adds_then : (t m on : Bool) (a b c : SinkState) (text more : List ℕ) → Adds t m a b text → Adds m on b c more → Adds t on a c (text ++ more)
adds_then true m on a b c text more d e = drawn_then m on a b c text more d e
adds_then false m on a b c text more d e =
    let off = subst (λ x. Adds x on b c more) d.0 e in
    (off.0, off.1 ∙ d.1)

-- the line was ended
pub ended_as : (m on : Bool) (old new : SinkState) → Adds m on old new (codes "\n") → Ends m old new
ended_as true true old new d = (codes "\n", d.0, ([], refl), inl refl)
ended_as true false old new d = (d.0, d.1, d.2, inr d.3)
ended_as false on old new d = d.1

-- a text was drawn, and then another was told
pub drawn_said : (a b c : SinkState) (text more : List ℕ) → IsDrawn true a b text → Says b c more → Says a c (text ++ more)
drawn_said a b c text more d e = (
  text ++ e.0,
  Appends-trans a.contents b.contents c.contents text e.0 d.0 e.1,
  (e.2.0, ap (λ w. text ++ w) e.2.1 ∙ sym (append_assoc text e.0 e.2.0)),
  whole e.3,
)
  where
    whole : (e.0 ≡ more) ⊎ OutputFails b c → (text ++ e.0 ≡ text ++ more) ⊎ OutputFails a c
    whole (inl is) = inl (ap (λ w. text ++ w) is)
    whole (inr fails) = inr (rw (sym d.1.0, sym d.1.1) fails)

-- a text was drawn, and then the line was ended
pub drawn_ended : (m : Bool) (a b c : SinkState) (text : List ℕ) → IsDrawn m a b text → Ends m b c → Says a c (text ++ codes "\n")
drawn_ended true a b c text d e = drawn_said a b c text (codes "\n") d e
drawn_ended false a b c text d e = subst (λ s. Says a s (text ++ codes "\n")) (sym e) (d.0, d.1, front_of d.0 text (codes "\n") d.2, inr d.3)
