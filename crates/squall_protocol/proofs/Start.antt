-- What holds at the start.
use Rattle.std.proofs.Common.{◌≡◌, ◌≢◌, ℕ, ◌+◌, ◌<◌, ◌≤◌, ◌==◌, ◌&&◌, true, false, List, [], refl, sym, ◌∙◌, inl, inr, ⊎_elim, arith, true≢false, le_refl}
use Rattle.std.specs.Prelude.{Some, nat_lt}
use Rattle.std.specs.List.{slice_get}
use Rattle.std.proofs.lemmas.Bool.{cases_eq, eqb-true, eq-eqb, and_parts, and_from, or_left, or_right, lt-ltb}
use Rattle.squall_key.specs.Keys.{top}
use Rattle.squall_plan.specs.declared.range.PlanRange.{PlanRange}
use Rattle.squall_plan.specs.Ranges.{owner_of, names}
use Rattle.squall_report.specs.Issues.{plan_pair}
use Rattle.squall_protocol.specs.declared.event.Node.{Node}
use Rattle.squall_protocol.specs.declared.event.Node.TheVariants.{Leader, Part, Router}
use Rattle.squall_protocol.specs.Worlds.{WorldValue, start, first_facts}
use Rattle.squall_protocol.specs.Steps.{IsPlan}
use Rattle.squall_protocol.specs.Promises.{IsReached}
use Rattle.squall_protocol.proofs.Courses.{sub_in, named_owner}
use Rattle.squall_protocol.proofs.Kept.{TrueFacts, Kept}
use Rattle.squall_protocol.proofs.Parts.{part_first}
use Rattle.squall_protocol.proofs.Says.{no_true, issued_true}
use Rattle.squall_protocol.proofs.Runs.{keeps_run}

pub kept_start : (old new : List PlanRange) (routers : ℕ) → IsPlan old → IsPlan new → Kept (start old new routers)
kept_start old new routers old_plan new_plan =
    record {
      first = le_refl 1;
      numbers = omega arith;
      olds = λ n h. old_plan;
      news = λ n h. new_plan;
      old_there = λ n k h key. part_first old new (owner_of old k) old_plan new_plan (or_left (names old (owner_of old k)) (names new (owner_of old k)) (named_owner old k old_plan key));
      new_there = λ n k h key. part_first old new (owner_of new k) old_plan new_plan (or_right (names old (owner_of new k)) (names new (owner_of new k)) (named_owner new k new_plan key));
      held_true = λ p k h. ⊎_elim
          (λ (same : owner_of old k ≡ owner_of new k). inl (sym (holder p k h) ∙ same, λ m. absurd (m same)))
          (λ (moves : owner_of old k ≡ owner_of new k → ⊥). inr (sym (holder p k h), moves, refl))
          (cases_eq (owner_of old k) (owner_of new k));
      held_from = λ p k key h. and_from (nat_lt k top) (owner_of old k == p) (lt-ltb k top key) (eq-eqb (owner_of old k) p (⊎_elim
          (λ (x : (p ≡ owner_of new k) × (owner_of old k ≢ owner_of new k → false ≡ true)). ⊎_elim
          (λ (same : owner_of old k ≡ owner_of new k). same ∙ sym x.0)
          (λ (moves : owner_of old k ≡ owner_of new k → ⊥). absurd (true≢false (sym (x.1 moves))))
          (cases_eq (owner_of old k) (owner_of new k)))
          (λ (x : (p ≡ owner_of old k) × (owner_of old k ≢ owner_of new k) × (false ≡ false)). sym x.0)
          h));
      given = λ n p k h. absurd (true≢false (sym h));
      loaded = λ n p k h. absurd (true≢false (sym h));
      left = λ n k a b. absurd (between n a b);
      earlier = λ k m h. absurd (none (sub_in (start old new routers) 1 k + 1) h);
      facts = true_first;
      messages = λ i message h. absurd (empty i message h);
      some = λ i x h. absurd (empty i x h);
      sent = λ i x h k has. absurd (empty i x h);
      once = λ i j a b k h g x y z t. absurd (empty i a h);
      somewhere = λ n p k h. absurd (true≢false (sym h));
    }
  where
    holder : (p k : ℕ) → (nat_lt k top && (owner_of old k == p)) ≡ true → owner_of old k ≡ p
    holder p k h = eqb-true (owner_of old k) p (and_parts (nat_lt k top) (owner_of old k == p) h).1

    between : (n : ℕ) → 1 ≤ n → n < 1 → ⊥
    between n a b = omega arith

    none : (n : ℕ) → n < 0 → ⊥
    none n h = omega arith

    empty : {A : Type 0} (i : ℕ) (x : A) → slice_get [] i ≡ Some x → ⊥
    empty i x h = cc

    true_first : (node : Node) → TrueFacts (start old new routers) (first_facts old new node)
    true_first Leader = issued_true (start old new routers) 1 (plan_pair old new) (le_refl 1, le_refl 1) refl
    true_first (Part p) = no_true (start old new routers)
    true_first (Router r) = no_true (start old new routers)

-- so in each world that a run leads to
pub kept_always : (w : WorldValue) → IsReached w → Kept w
kept_always w reached = keeps_run (start reached.old reached.new reached.routers) reached.events reached.answers w (kept_start reached.old reached.new reached.routers reached.old_plan reached.new_plan) reached.run
