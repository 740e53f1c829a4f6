use Rattle.std.proofs.Common.{◌≡◌, ℕ, ◌≤◌, false, true, sym, ap, subst, ◌∙◌, List, length}
use Rattle.std.specs.Prelude.{Result, Ok, Err, Some, IfOk, string_bytes}
use Rattle.std.specs.Str.{is_utf8}
use Rattle.std.proofs.lemmas.Str.{IsUtf8-string_bytes, is_utf8-from_IsUtf8}
use Rattle.serde_json.specs.Data.{Data, depth}
use Rattle.serde_json.specs.View.{view}
use Rattle.serde_json.specs.Read.{read}
use Rattle.serde_json.specs.Written.{compact_text, has_float}
use Rattle.squall_plan.specs.declared.range.PlanRange.{PlanRange}
use Rattle.squall_plan.specs.Ranges.{AreRanges, IsCanonical}
use Rattle.squall_plan.specs.Arranged.{plan_of_ranges, range_limit}
use Rattle.squall_plan.specs.Form.{plan_of_text}
use Rattle.squall_plan.specs.PlanText.{json_of_plan, text_of_plan}
use Rattle.squall_plan.proofs.Plain.{plan_plain, plan_flat}
use Rattle.squall_plan.proofs.ReadBack.{text_back, own_plan}
use Rattle.squall_plan.proofs.text.plan_text.Goals as goal

spelled : {X E : Type 0} (bytes : X → List ℕ) (rs : List PlanRange) (d : Data) (r : Result X E) → d ≡ json_of_plan rs
    → IfOk r (λ s. has_float d ≡ false → bytes s ≡ compact_text d) → IfOk r (λ s. bytes s ≡ text_of_plan rs)
spelled bytes rs d (Ok s) is text = text (ap has_float is ∙ plan_plain rs) ∙ ap compact_text is
spelled bytes rs d (Err e) is text = tt

back : {X E : Type 0} (bytes : X → List ℕ) (rs : List PlanRange) (d : Data) (r : Result X E) → ((s : X) → is_utf8 (bytes s) ≡ true) → d ≡ json_of_plan rs
    → IfOk r (λ s. depth d ≤ 127 → read (bytes s) ≡ Some d) → AreRanges rs → plan_of_ranges rs ≡ Ok rs → IfOk r (λ s. plan_of_text (bytes s) ≡ Ok rs)
back bytes rs d (Ok s) utf8 is reads full own =
    text_back rs (bytes s) (utf8 s) (reads (subst (λ e. depth e ≤ 127) (sym is) (plan_flat rs)) ∙ ap (λ e. Some e) is) full own
back bytes rs d (Err e) utf8 is reads full own = tt

pub returns-clause-text : goal.returns-clause-text
returns-clause-text c =
    spelled string_bytes c.args.plan.now (view c.in_ok-plan_value.field-0) c.to_string.result (c.in_ok-plan_value.ensures ∙ ap json_of_plan c.ranges-2.ensures.value)
    c.to_string.ensures.text

pub returns-clause-reads : goal.returns-clause-reads
returns-clause-reads c =
    let same = c.ranges-2.ensures.value in
    let plan : List PlanRange = c.args.plan.now in
    let full : AreRanges plan = subst (λ rs. AreRanges rs) same c.ranges-2.ensures.ranges in
    let canonical : IsCanonical plan = subst (λ rs. IsCanonical rs) same c.ranges-2.ensures.canonical in
    let few : length plan ≤ range_limit = subst (λ (rs : List PlanRange). length rs ≤ range_limit) same c.ranges-2.ensures.few in
    back string_bytes plan (view c.in_ok-plan_value.field-0) c.to_string.result (λ s. is_utf8-from_IsUtf8 (string_bytes s) (IsUtf8-string_bytes s))
    (c.in_ok-plan_value.ensures ∙ ap json_of_plan same) c.to_string.ensures.reads_back full
    (own_plan plan canonical full few c.one_list.ensures c.one_answer.ensures c.canonical_is_plan.ensures c.answer_has_meaning.ensures c.answer_needs_no_memory.ensures.ranges)
