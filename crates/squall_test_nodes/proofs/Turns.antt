-- Streams whose pieces come in turn bring what both bring.
use Rattle.std.specs.Prelude.{◌≡◌, Bool, true, false, ◌||◌, List, [], ◌++◌, refl}
use Rattle.std.proofs.Common.{sym, ap, ◌∙◌, subst}
use Rattle.std.proofs.lemmas.List.{append-nil}
use Rattle.squall_join.specs.declared.flat.Flat.{Flat}
use Rattle.squall_report.specs.Issues.{PlanPair}
use Rattle.squall_report.specs.Facts.{reports_say}
use Rattle.squall_report.specs.Told.{SameTold, told_by, both_issued, reports_issue}
use Rattle.squall_report.specs.ToldLaws.{told_append, issued_assoc, issued_comm}
use Rattle.squall_headline.specs.Ways.{Reports, Sent, reports_sent}
use Rattle.squall_headline.specs.ComingLaws.{reports_append}

or_in_turn : (a b c d : Bool) → (a || (b || (c || d))) ≡ ((a || c) || (b || d))
or_in_turn true b c d = refl
or_in_turn false true true d = refl
or_in_turn false true false d = refl
or_in_turn false false c d = refl

issued_in_turn : (a b c d : Flat PlanPair) → both_issued a (both_issued b (both_issued c d)) ≡ both_issued (both_issued a c) (both_issued b d)
issued_in_turn a b c d =
    ap (both_issued a) (sym (issued_assoc b c d) ∙ ap (λ x. both_issued x d) (issued_comm b c) ∙ issued_assoc c b d)
    ∙ sym (issued_assoc a c (both_issued b d))

in_turn : (a b c d : Reports) → SameTold (told_by (a ++ (b ++ (c ++ d)))) (told_by ((a ++ c) ++ (b ++ d)))
in_turn a b c d = record {
  facts = λ f.
      (told_append a (b ++ (c ++ d))).facts f
      ∙ ap (λ x. reports_say a f || x) ((told_append b (c ++ d)).facts f ∙ ap (λ x. reports_say b f || x) ((told_append c d).facts f))
      ∙ or_in_turn (reports_say a f) (reports_say b f) (reports_say c f) (reports_say d f)
      ∙ sym ((told_append (a ++ c) (b ++ d)).facts f ∙ (λ i. (told_append a c).facts f i || (told_append b d).facts f i));
  issues = λ n.
      (told_append a (b ++ (c ++ d))).issues n
      ∙ ap (both_issued (reports_issue a n)) ((told_append b (c ++ d)).issues n ∙ ap (both_issued (reports_issue b n)) ((told_append c d).issues n))
      ∙ issued_in_turn (reports_issue a n) (reports_issue b n) (reports_issue c n) (reports_issue d n)
      ∙ sym ((told_append (a ++ c) (b ++ d)).issues n ∙ (λ i. both_issued ((told_append a c).issues n i) ((told_append b d).issues n i)));
}

-- all of a stream came in two pieces
in_two : (sent first second third fourth : List Sent) → sent ≡ first ++ second → second ≡ third ++ fourth → fourth ≡ [] → reports_sent first ++ reports_sent third ≡ reports_sent sent
in_two sent first second third fourth all more none =
    sym (reports_append first third)
    ∙ ap (λ (ss : List Sent). reports_sent (first ++ ss)) (sym (append-nil third) ∙ ap (λ (ss : List Sent). third ++ ss) (sym none) ∙ sym more)
    ∙ ap reports_sent (sym all)

pub told_in_turn : (ss qs a a' b b' c c' d d' : List Sent) → ss ≡ a ++ a' → qs ≡ b ++ b' → a' ≡ c ++ c' → b' ≡ d ++ d' → c' ≡ [] → d' ≡ []
    → SameTold (told_by (reports_sent a ++ (reports_sent b ++ (reports_sent c ++ (reports_sent d ++ []))))) (told_by (reports_sent ss ++ reports_sent qs))
told_in_turn ss qs a a' b b' c c' d d' one two three four none none' =
    let both : (reports_sent a ++ reports_sent c) ++ (reports_sent b ++ reports_sent d) ≡ reports_sent ss ++ reports_sent qs = λ i. in_two ss a a' c c' one three none i ++ in_two qs b b' d d' two four none' i in
    subst (λ (rs : Reports). SameTold (told_by rs) (told_by (reports_sent ss ++ reports_sent qs))) (ap (λ (rs : Reports). reports_sent a ++ (reports_sent b ++ (reports_sent c ++ rs))) (sym (append-nil (reports_sent d))))
    (subst (λ (rs : Reports). SameTold (told_by (reports_sent a ++ (reports_sent b ++ (reports_sent c ++ reports_sent d)))) (told_by rs)) both (in_turn (reports_sent a) (reports_sent b) (reports_sent c) (reports_sent d)))
