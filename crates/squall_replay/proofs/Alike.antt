-- Partitions that no call tells apart reply alike.
use Rattle.std.proofs.Common.{◌≡◌, ℕ, ◌<◌, ◌≤◌, sym, ap, subst, ◌∙◌, inl, inr}
use Rattle.squall_span.specs.Spans.{has}
use Rattle.squall_plan.specs.Ranges.{owner_of}
use Rattle.squall_course.specs.Subplans.{moves}
use Rattle.squall_errand.specs.declared.errand.Reply.{Reply}
use Rattle.squall_errand.specs.declared.errand.Reply.TheVariants.{Held, Moved, Pending, Behind, Elsewhere}
use Rattle.squall_protocol.specs.Firsts.{IsGreatest}
use Rattle.squall_part.specs.Parts.{PartValue, known_course, known_to, course_of_part}
use Rattle.squall_part.specs.Serving.{GaveUnder, ComesUnder, IsLastGiven, IsLastComing, IsReply}
use Rattle.squall_part.proofs.Replies.{same_reply}
use Rattle.squall_replay.specs.Calls.{IsSamePart}
use Rattle.squall_replay.proofs.Same.{one_course}

-- a relation that holds of the same numbers has the same greatest one
greatest : (R S : ℕ → Type 0) (g : ℕ) → ((n : ℕ) → R n → S n) → ((n : ℕ) → S n → R n) → IsGreatest S g → IsGreatest R g
greatest R S g to from h = record { top = λ n r. h.top n (to n r); reached = elim h.reached [ inl none ↦ inl none | inr there ↦ inr (from g there) ] }

turned : (p q : PartValue) → IsSamePart p q → IsSamePart q p
turned p q same = record {
  id = sym same.id;
  first = sym same.first;
  board = sym same.board;
  held = sym same.held;
  given = λ n. sym (same.given n);
  loaded = λ n. sym (same.loaded n);
  closed = λ n. sym (same.closed n);
}

one_known : (p q : PartValue) → IsSamePart p q → (n : ℕ) → known_to p n ≡ known_to q n
one_known p q same n = λ i. known_course (same.first i) (same.board i) n

gave_too : (p q : PartValue) (k : ℕ) → IsSamePart p q → (n : ℕ) → GaveUnder q k n → GaveUnder p k n
gave_too p q k same n h = ((h.0.0, one_known p q same n ∙ h.0.1), ap (λ v. has v k) (same.given n) ∙ h.1)

comes_too : (p q : PartValue) (k : ℕ) → IsSamePart p q → (n : ℕ) → ComesUnder q k n → ComesUnder p k n
comes_too p q k same n h =
    let c = one_course p q same in
    (h.0 ∙ sym (ap (λ c. c.number) c), ap (λ c. moves c.old c.new k) c ∙ h.1, ap (λ c. owner_of c.new k) c ∙ h.2 ∙ sym same.id, ap (λ v. has v k) (same.loaded n) ∙ h.3)

module _ (p q : PartValue) (same : IsSamePart p q) (k : ℕ) where
  given_last : (g : ℕ) → IsLastGiven q k g → IsLastGiven p k g
  given_last g h = greatest (GaveUnder p k) (GaveUnder q k) g (gave_too q p k (turned p q same)) (gave_too p q k same) h

  coming_last : (c : ℕ) → IsLastComing q k c → IsLastComing p k c
  coming_last c h = greatest (ComesUnder p k) (ComesUnder q k) c (comes_too q p k (turned p q same)) (comes_too p q k same) h

  number : (course_of_part q).number ≡ (course_of_part p).number
  number = sym (ap (λ c. c.number) (one_course p q same))

  reply_too : (after : ℕ) (y : Reply) → IsReply q k after y → IsReply p k after y
  reply_too after Held h = ap (λ v. has v k) same.held ∙ h
  reply_too after (Pending source) h =
      let x = h.1 in (
        ap (λ v. has v k) same.held ∙ h.0,
        (x.0, x.1, given_last x.0 x.2, coming_last x.1 x.3, x.4, (x.5.0, one_known p q same x.1 ∙ x.5.1, x.5.2)),
      )
  reply_too after (Moved dest g) h = (
    ap (λ v. has v k) same.held ∙ h.0,
    given_last g h.1,
    (h.2.0, coming_last h.2.0 h.2.1, h.2.2),
    h.3,
    (h.4.0, one_known p q same g ∙ h.4.1, h.4.2),
  )
  reply_too after Behind h =
      let x = h.1 in (
        ap (λ v. has v k) same.held ∙ h.0,
        (x.0, x.1, given_last x.0 x.2, coming_last x.1 x.3, x.4, x.5),
        subst (λ n. n < after) number h.2,
      )
  reply_too after (Elsewhere part) h =
      let x = h.1 in (
        ap (λ v. has v k) same.held ∙ h.0,
        (x.0, x.1, given_last x.0 x.2, coming_last x.1 x.3, x.4, x.5),
        subst (λ n. after ≤ n) number h.2,
        h.3 ∙ ap (λ c. owner_of c.old k) (sym (one_course p q same)),
      )

pub reply_alike : (p q : PartValue) (k after : ℕ) (x y : Reply) → IsSamePart p q → IsReply p k after x → IsReply q k after y → x ≡ y
reply_alike p q k after x y same h g = same_reply p k after x y h (reply_too p q same k after y g)
