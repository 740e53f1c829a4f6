-- Frames that are answered one after the other.
use Rattle.std.proofs.Common.{◌≡◌, ℕ, ◌+◌, ◌<◌, ◌≤◌, List, [], ◌∷◌, ◌++◌, length, drop, Option, None, Some, sym, ap, subst, ◌∙◌, refl}
use Rattle.std.proofs.lemmas.List.{append_assoc, append-nil, drop_more, drop_all}
use Rattle.std.specs.Prelude.{map, slice_index_or}
use Rattle.std.specs.List.{concat}
use Rattle.squall_wire.specs.declared.fault.WireFault.{WireFault}
use Rattle.squall_wire.specs.Messages.{Body}
use Rattle.squall_cli_lines.proofs.RunningLemmas.{concat-append}
use Rattle.squall_cli_boards.specs.Files.{fault_after}
use Rattle.squall_board.specs.Boards.{BoardValue}
use Rattle.squall_cli_watch.specs.declared.ending.WatchEnd.{WatchEnd}
use Rattle.squall_cli_watch.specs.declared.ending.WatchEnd.TheVariants.{Refused}
use Rattle.squall_cli_watch.specs.declared.ending.Next.TheVariants.{On, End}
use Rattle.squall_cli_watch.specs.Scripts.{WatchScript, ending, last_word, after}
use Rattle.squall_cli_watch.specs.Taken.{TakesFrame, TakesFrames}
use Rattle.squall_cli_watch.specs.Drawing.{JoinsFrame, JoinsFrames}

pub after-after : (a b : List (List ℕ)) (s : WatchScript) → after a (after b s) ≡ after (a ++ b) s
after-after a b s = ap (λ (w : List (List ℕ)). ending s.ended w) (sym (append_assoc a b s.answers))

-- what is left, from the next one on
pub next_left : {X Y : Type 0} (f : X → Y) (xs : List X) (n : ℕ) (x : X) → n < length xs → x ≡ slice_index_or xs n x → map f (drop n xs) ≡ f x ∷ map f (drop (n + 1) xs)
next_left f xs n x below is = ap (map f) (drop_more xs n x below ∙ ap (λ y. y ∷ drop (n + 1) xs) (sym is))

pub none_left : {X Y : Type 0} (f : X → Y) (xs : List X) (n : ℕ) → length xs ≤ n → map f (drop n xs) ≡ []
none_left f xs n all = ap (map f) (drop_all n xs all)

-- what was added with one text more
pub added : (out new first : List ℕ) (texts : List (List ℕ)) (text : List ℕ) → out ≡ first ++ concat texts → new ≡ out ++ text → new ≡ first ++ concat (texts ++ text ∷ [])
added out new first texts text before now = now ∙ ap (λ w. w ++ text) before ∙ append_assoc first (concat texts) text
    ∙ ap (λ w. first ++ (concat texts ++ w)) (sym (append-nil text)) ∙ ap (λ w. first ++ w) (sym (concat-append texts (text ∷ [])))

-- what was added to nothing
pub texts_alone : (empty out bytes : List ℕ) (texts : List (List ℕ)) → empty ≡ [] → out ≡ empty ++ concat texts → bytes ≡ out → bytes ≡ concat texts
texts_alone empty out bytes texts none grown is = is ∙ grown ∙ ap (λ w. w ++ concat texts) none

-- These texts are the first answers: whatever answers the frames that are left, and those after them, answers all if the texts come first.
abbrev pub Begun : (List Body → Option WireFault → WatchScript → Type 0) → (List Body → Option WireFault → WatchScript → Type 0) → List (List ℕ) → List Body → List Body → Type 0
Begun old now texts left all = (more : List Body) (f : Option WireFault) (s : WatchScript) → now (left ++ more) f s → old (all ++ more) f (after texts s)

module _ (old now next : List Body → Option WireFault → WatchScript → Type 0) (texts : List (List ℕ)) (left all : List Body) (begun : Begun old now texts left all) where
  -- one frame more
  pub begun_more : (text : List ℕ) (body : Body) (rest : List Body) → left ≡ body ∷ rest → TakesFrame On text now next body → Begun old next (texts ++ text ∷ []) rest all
  begun_more text body rest is taken = λ more f s p.
      subst (λ (w : WatchScript). old (all ++ more) f w) (after-after texts (text ∷ []) s)
      (begun more f (after (text ∷ []) s) (subst (λ b. now (b ++ more) f (after (text ∷ []) s)) (sym is) (taken (rest ++ more) f s p)))

  -- one that ends the answers
  pub begun_ends : (end : WatchEnd) (text : List ℕ) (body : Body) (rest : List Body) (fault : Option WireFault) → left ≡ body ∷ rest → TakesFrame (End end) text now next body
      → TakesFrames (End end) (texts ++ text ∷ []) old next all fault
  begun_ends end text body rest fault is taken = λ tail.
      subst (λ b. old b (fault_after fault tail) (ending end (texts ++ text ∷ []))) (append-nil all)
      (begun [] (fault_after fault tail) (ending end (text ∷ []))
      (subst (λ b. now (b ++ []) (fault_after fault tail) (ending end (text ∷ []))) (sym is) (taken (rest ++ []) (fault_after fault tail))))

  -- no frame is left
  pub begun_all : left ≡ [] → TakesFrames On texts old now all None
  begun_all is = (refl, λ more f s p. begun more f s (subst (λ b. now (b ++ more) f s) (sym is) p))

  -- and a fault follows
  pub begun_fault : (e : WireFault) (text : List ℕ) → left ≡ [] → now [] (Some e) (last_word text) → TakesFrames (End Refused) (texts ++ text ∷ []) old next all (Some e)
  begun_fault e text is p = λ tail.
      subst (λ b. old b (Some e) (after texts (last_word text))) (append-nil all)
      (begun [] (Some e) (last_word text) (subst (λ b. now (b ++ []) (Some e) (last_word text)) (sym is) p))

-- These frames are left of all: what they and those after them make now, all make of the old board.
abbrev pub Joining : (List Body → BoardValue → Type 0) → (List Body → BoardValue → Type 0) → List Body → List Body → Type 0
Joining old now left all = (more : List Body) (b : BoardValue) → now (left ++ more) b → old (all ++ more) b

module _ (old now next : List Body → BoardValue → Type 0) (b : BoardValue) (left all : List Body) (begun : Joining old now left all) where
  pub joining_more : (body : Body) (rest : List Body) → left ≡ body ∷ rest → JoinsFrame On now next b body → Joining old next rest all
  joining_more body rest is j = λ more e p. begun more e (subst (λ w. now (w ++ more) e) (sym is) (j (rest ++ more) e p))

  pub joining_ends : (end : WatchEnd) (body : Body) (rest : List Body) (fault : Option WireFault) → left ≡ body ∷ rest → JoinsFrame (End end) now next b body
      → JoinsFrames (End end) old next b all fault
  joining_ends end body rest fault is j = subst (λ w. old w b) (append-nil all) (begun [] b (subst (λ w. now (w ++ []) b) (sym is) (j (rest ++ []))))

module _ (old now : List Body → BoardValue → Type 0) (b : BoardValue) (left all : List Body) (begun : Joining old now left all) (none : left ≡ []) where
  pub joining_all : JoinsFrames On old now b all None
  joining_all = (refl, λ more e p. begun more e (subst (λ w. now (w ++ more) e) (sym none) p))

  pub joining_fault : (fault : Option WireFault) → now [] b → JoinsFrames (End Refused) old now b all fault
  joining_fault fault here = subst (λ w. old w b) (append-nil all) (begun [] b (subst (λ w. now (w ++ []) b) (sym none) here))
