use Rattle.std.proofs.Common.{◌≡◌, ◌≤◌, true, false, List, [], ◌∷◌, refl, sym, ◌∙◌, subst, ⊎_elim, arith}
use Rattle.std.proofs.lemmas.Bool.{cases_Bool, cond-true, cond-false}
use Rattle.squall_plan.specs.declared.range.PlanRange.{PlanRange}
use Rattle.squall_protocol.specs.declared.event.Node.{Node}
use Rattle.squall_protocol.specs.declared.event.Node.TheVariants.{Leader, Part, Router}
use Rattle.squall_protocol.specs.Worlds.{WorldValue, same_node, start, first_facts}
use Rattle.squall_protocol.specs.WorldLaws.{same_as_itself, reached_start}
use Rattle.squall_audit.specs.Lines.{Line}
use Rattle.squall_audit.specs.Logs.{CanCome, ComesNext}
use Rattle.squall_test_nodes.specs.Audits.{hearsay, no_lines, router_log}
use Rattle.squall_test_nodes.proofs.audit.hearsay_is_refused.Goals as goal

-- at first nobody knows of an opening
unknown : (old new : List PlanRange) (m : Node) → 1 ≤ (first_facts old new m).opened 1 → ⊥
unknown old new Leader h = omega (arith, h)
unknown old new (Part p) h = omega (arith, h)
unknown old new (Router r) h = omega (arith, h)

same_head : (k l : Line) (ks ls : List Line) → k ∷ ks ≡ l ∷ ls → k ≡ l
same_head k l ks ls e = cc

no_head : (l : Line) (ls : List Line) → [] ≡ l ∷ ls → ⊥
no_head l ls e = cc

-- so the router's line can't come
none : (old new : List PlanRange) → ComesNext (start old new 1) router_log no_lines → ⊥
none old new next = ⊎_elim
    (λ (e : same_node next.node (Router 0) ≡ true).
    let same : hearsay ≡ next.line = same_head hearsay next.line [] next.next_line.0 (sym (cond-true (same_node next.node (Router 0)) (hearsay ∷ []) [] e) ∙ next.next_line.1) in
    let came : CanCome (start old new 1) next.node hearsay = subst (CanCome (start old new 1) next.node) (sym same) next.comes in
    let knows = came.1.1.opened 1 (omega arith) in
    unknown old new knows.0 knows.2)
    (λ (e : same_node next.node (Router 0) ≡ false). no_head next.line next.next_line.0 (sym (cond-false (same_node next.node (Router 0)) (hearsay ∷ []) [] e) ∙ next.next_line.1))
    (cases_Bool (same_node next.node (Router 0)))

pub returns : goal.returns
returns c old new old_plan new_plan =
    let s : WorldValue = start old new 1 in
    c.what_is_left_is_in_no_run.ensures s s router_log no_lines (reached_start old new 1 s old_plan new_plan (same_as_itself s))
    (record { run = []; trace = refl; written = λ m. refl }) (λ m. (router_log m, refl)) (none old new)
