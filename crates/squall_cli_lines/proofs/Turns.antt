-- What holds between two lines of a block.
use Rattle.std.proofs.Common.{◌≡◌, ℕ, ◌<◌, ◌≤◌, List, [], ◌∷◌, ◌++◌, length, take, drop, Option, sym, ◌∙◌, ap, subst, arith}
use Rattle.std.proofs.lemmas.List.{append_assoc, append-nil, take-append-drop, take_all}
use Rattle.std.specs.Io.KnownBytes.{Appends}
use Rattle.squall_cli_lines.specs.declared.Flow.TheVariants.{On, End}
use Rattle.squall_cli_lines.specs.Lines.{lines_of, IsOneLine}
use Rattle.squall_cli_lines.specs.Script.{Script, TakesLine, silence, text_of}
use Rattle.squall_cli_lines.specs.Running.{Running, Begins, Cuts, Finishes}
use Rattle.squall_cli_lines.proofs.LineLemmas.{lines_of-last, IsOneLine-append}
use Rattle.std.proofs.KnownBytes.{Appends-nil, Appends-trans}
use Rattle.squall_cli_lines.proofs.RunningLemmas.{Running-refl, Running-line, Running-trans, Begins-now, Finishes-line, Finishes-last, Finishes-later}

-- What was sent is the answers to some first lines, and with what is to go out it answers all that
-- was read but what is left, which begins with the bytes carried over.
pub record Turn (first now : List (List ℕ) → Script → Type 0) (old new : Option (List ℕ)) (read left out carry : List ℕ) : Type 0 where
  pub sent : List ℕ
  pub appends : Appends old new sent
  pub running : Running first now read left (sent ++ out)
  pub begun : Begins first read sent
  pub one : IsOneLine carry

-- what was sent and what is to go out begin all that is answered
pub record Told (first : List (List ℕ) → Script → Type 0) (old new : Option (List ℕ)) (read out : List ℕ) : Type 0 where
  pub sent : List ℕ
  pub appends : Appends old new sent
  pub cut : Cuts first read (sent ++ out)

-- what was sent and what is to go out are all that is answered, and the last line was bad
pub record Over (first : List (List ℕ) → Script → Type 0) (old new : Option (List ℕ)) (read out : List ℕ) : Type 0 where
  pub sent : List ℕ
  pub appends : Appends old new sent
  pub finishes : Finishes first read (sent ++ out)

-- whole answers to some first lines are a prefix of them
pub Cuts-begins : (first : List (List ℕ) → Script → Type 0) (read text : List ℕ) → Begins first read text → Cuts first read text
Cuts-begins first read text t = (t.0, t.1, t.2, ([], sym t.3 ∙ sym (append-nil text)))

-- and so are the answers to all lines
pub Cuts-all : (first : List (List ℕ) → Script → Type 0) (read text : List ℕ) (s : Script) → first (lines_of read) s → text ≡ text_of s → Cuts first read text
Cuts-all first read text s p e =
    let whole : length (lines_of read) ≤ length (lines_of read) = omega arith in
    (length (lines_of read), s, subst (λ w. first w s) (sym (take_all (length (lines_of read)) (lines_of read) whole)) p, ([], sym e ∙ sym (append-nil text)))

-- before the first line of a block
pub Turn-start : (first : List (List ℕ) → Script → Type 0) (old : Option (List ℕ)) (read carry : List ℕ) → first [] silence → IsOneLine carry → Turn first first old old read read [] carry
Turn-start first old read carry quiet one = record {
  sent = [];
  appends = Appends-nil old;
  running = Running-refl first first first read;
  begun = Begins-now first first first read read [] quiet (Running-refl first first first read);
  one = one;
}

module _ (first now next : List (List ℕ) → Script → Type 0) (old new last : Option (List ℕ)) (read : List ℕ) where
  pub Turn-line : (carry rest line others out text out' carry' : List ℕ) → Turn first now old new read (carry ++ rest) out carry → rest ≡ line ++ 10 ∷ others → IsOneLine line → TakesLine On text now next (carry ++ line) → out' ≡ out ++ text → carry' ≡ [] → Turn first next old new read (carry' ++ others) out' carry'
  Turn-line carry rest line others out text out' carry' t is one taken out_is carry_is = record {
    sent = t.sent;
    appends = t.appends;
    running =
        let step = Running-line now next next (carry ++ line) others text (IsOneLine-append carry line t.one one) taken in
        let left_is : carry ++ rest ≡ (carry ++ line) ++ 10 ∷ others = ap (λ w. carry ++ w) is ∙ sym (append_assoc carry line (10 ∷ others)) in
        let both = Running-trans first now next read (carry ++ rest) others (t.sent ++ out) text t.running (subst (λ w. Running now next w others text) (sym left_is) step) in
        let texts : (t.sent ++ out) ++ text ≡ t.sent ++ out' = append_assoc t.sent out text ∙ ap (λ w. t.sent ++ w) (sym out_is) in
        subst (λ w. Running first next read (w ++ others) (t.sent ++ out')) (sym carry_is) (subst (Running first next read others) texts both);
    begun = t.begun;
    one = subst IsOneLine (sym carry_is) (λ k l. absurd (omega arith));
  }

  pub Turn-flush : (left carry out out' : List ℕ) → now [] silence → Turn first now old new read left out carry → Appends new last out → out' ≡ [] → Turn first now old last read left out' carry
  Turn-flush left carry out out' quiet t sends out_is = record {
    sent = t.sent ++ out;
    appends = Appends-trans old new last t.sent out t.appends sends;
    running = subst (λ w. Running first now read left w) (sym (append-nil (t.sent ++ out)) ∙ ap (λ w. (t.sent ++ out) ++ w) (sym out_is)) t.running;
    begun = Begins-now first now next read left (t.sent ++ out) quiet t.running;
    one = t.one;
  }

  pub Told-turn : (left carry out : List ℕ) → now [] silence → Turn first now old new read left out carry → Told first old new read out
  Told-turn left carry out quiet t = record {
    sent = t.sent;
    appends = t.appends;
    cut = Cuts-begins first read (t.sent ++ out) (Begins-now first now next read left (t.sent ++ out) quiet t.running);
  }

  pub Told-over : (out : List ℕ) → Over first old new read out → Told first old new read out
  Told-over out t = record { sent = t.sent; appends = t.appends; cut = Cuts-all first read (t.sent ++ out) t.finishes.0 t.finishes.1 t.finishes.2 }

  -- a flush that failed
  pub Told-fails : (out : List ℕ) (n : ℕ) → Told first old new read out → Appends new last (take n out) → (sent : List ℕ) × Appends old last sent × Cuts first read sent
  Told-fails out n t sends =
      let rest = t.cut.3.0 in (
        t.sent ++ take n out,
        Appends-trans old new last t.sent (take n out) t.appends sends,
        (
          t.cut.0,
          t.cut.1,
          t.cut.2,
          (
            drop n out ++ rest,
            t.cut.3.1
                ∙ ap (λ w. (t.sent ++ w) ++ rest) (sym (take-append-drop n out))
                ∙ ap (λ w. w ++ rest) (sym (append_assoc t.sent (take n out) (drop n out)))
                ∙ append_assoc (t.sent ++ take n out) (drop n out) rest,
          ),
        ),
      )

  -- an allocation failed
  pub Turn-stops : (left carry out : List ℕ) → Turn first now old new read left out carry → (sent : List ℕ) × Appends old new sent × Begins first read sent
  Turn-stops left carry out t = (t.sent, t.appends, t.begun)

  -- a bad line with its LF
  pub Over-line : (carry rest line others out text out' : List ℕ) → Turn first now old new read (carry ++ rest) out carry → rest ≡ line ++ 10 ∷ others → IsOneLine line → TakesLine End text now next (carry ++ line) → out' ≡ out ++ text → Over first old new read out'
  Over-line carry rest line others out text out' t is one taken out_is =
      let step = Finishes-line now next next (carry ++ line) others text (IsOneLine-append carry line t.one one) taken in
      let left_is : carry ++ rest ≡ (carry ++ line) ++ 10 ∷ others = ap (λ w. carry ++ w) is ∙ sym (append_assoc carry line (10 ∷ others)) in
      let both = Finishes-later first now next read (carry ++ rest) (t.sent ++ out) text t.running (subst (λ w. Finishes now w text) (sym left_is) step) in
      let texts : (t.sent ++ out) ++ text ≡ t.sent ++ out' = append_assoc t.sent out text ∙ ap (λ w. t.sent ++ w) (sym out_is) in
      record { sent = t.sent; appends = t.appends; finishes = subst (Finishes first read) texts both }

  -- a bad last line
  pub Over-last : (left carry line out text out' : List ℕ) → Turn first now old new read left out carry → left ≡ line → IsOneLine line → 0 < length line → TakesLine End text now next line → out' ≡ out ++ text → Over first old new read out'
  Over-last left carry line out text out' t is one some taken out_is =
      let step = Finishes-last now next next line text (lines_of-last line one some) taken in
      let both = Finishes-later first now next read left (t.sent ++ out) text t.running (subst (λ w. Finishes now w text) (sym is) step) in
      let texts : (t.sent ++ out) ++ text ≡ t.sent ++ out' = append_assoc t.sent out text ∙ ap (λ w. t.sent ++ w) (sym out_is) in
      record { sent = t.sent; appends = t.appends; finishes = subst (Finishes first read) texts both }

  pub Over-flush : (out : List ℕ) → Over first old new read out → Appends new last out → (sent : List ℕ) × Appends old last sent × Finishes first read sent
  Over-flush out t sends = (t.sent ++ out, Appends-trans old new last t.sent out t.appends sends, t.finishes)

  -- a block was taken
  pub Turn-done : (left carry out : List ℕ) → Turn first now old new read left out carry → Appends new last out → (sent : List ℕ) × Appends old last sent × Running first now read left sent
  Turn-done left carry out t sends = (t.sent ++ out, Appends-trans old new last t.sent out t.appends sends, t.running)
