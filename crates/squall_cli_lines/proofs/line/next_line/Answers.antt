use Rattle.std.proofs.Common.{◌≡◌, ◌∙◌, ◌<◌, ℕ, zero, suc, Bool, true, false, ◌==◌, length, ap, subst, arith}
use Rattle.squall_cli_lines.specs.Lines.{lines_of}
use Rattle.squall_cli_lines.proofs.LineLemmas.{lines_of-line, lines_of-last}
use Rattle.squall_cli_lines.proofs.line.next_line.Goals as goal

abbrev is_false : Bool → Type 0
is_false true = ⊥
is_false false = Unit {0}

not_zero : (n : ℕ) → false ≡ (n == 0) → 0 < n
not_zero zero e = absurd (subst (λ b. is_false b) e tt)
not_zero (suc n) e = omega arith

pub returns-in-Some-clause-lines : goal.returns-in-Some-clause-lines
returns-in-Some-clause-lines c = ap lines_of c.in-Some.ensures.line.0 ∙ lines_of-line c.in-Some.line.now c.in-Some.others.now c.in-Some.ensures.line.1

pub returns-in-None-clause-lines : goal.returns-in-None-clause-lines
returns-in-None-clause-lines c = lines_of-last c.args.text.now c.in-None.ensures.none (not_zero (length c.args.text.now) c.if-is_empty.ensures)
