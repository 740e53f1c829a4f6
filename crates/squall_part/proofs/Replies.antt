-- A partition has one reply.
use Rattle.std.proofs.Common.{◌≡◌, ℕ, ◌<◌, ◌≤◌, Bool, true, false, Some, refl, sym, ap, subst, ◌∙◌, arith}
use Rattle.std.proofs.lemmas.Bool.{false≢true}
use Rattle.squall_span.specs.Spans.{has}
use Rattle.squall_plan.specs.Ranges.{owner_of}
use Rattle.squall_course.specs.Change.{Change}
use Rattle.squall_errand.specs.declared.errand.Reply.{Reply}
use Rattle.squall_errand.specs.declared.errand.Reply.TheVariants.{Held, Moved, Pending, Behind, Elsewhere}
use Rattle.squall_protocol.specs.FirstsLaws.{same_greatest}
use Rattle.squall_part.specs.Parts.{PartValue, known_to}
use Rattle.squall_part.specs.Serving.{IsLastGiven, IsLastComing, IsReply}

same_change : (p : PartValue) (n : ℕ) (c d : Change) → known_to p n ≡ Some c → known_to p n ≡ Some d → c ≡ d
same_change p n c d e f = let g : Some c ≡ Some d = sym e ∙ f in cc

no_reply : (b : Bool) → b ≡ false → b ≡ true → ⊥
no_reply b e f = false≢true (sym e ∙ f)

-- it is not awaited by a later course than that by which it was given, and by none later than that
awaited : (p : PartValue) (k g c h d : ℕ) → IsLastGiven p k g → IsLastComing p k c → IsLastGiven p k h → IsLastComing p k d → g < c → d ≤ h → ⊥
awaited p k g c h d a b e f lt le = let x = same_greatest _ g h a e in let y = same_greatest _ c d b f in omega arith

-- it was not given both after a number and not after it
given_after : (p : PartValue) (k g h after : ℕ) → IsLastGiven p k g → IsLastGiven p k h → after < g → h ≤ after → ⊥
given_after p k g h after a e lt le = let x = same_greatest _ g h a e in omega arith

pub same_reply : (p : PartValue) (k after : ℕ) (r q : Reply) → IsReply p k after r → IsReply p k after q → r ≡ q
same_reply p k after Held Held a b = refl
same_reply p k after Held (Pending s) a b = absurd (no_reply (has p.held k) b.0 a)
same_reply p k after Held (Moved d n) a b = absurd (no_reply (has p.held k) b.0 a)
same_reply p k after Held Behind a b = absurd (no_reply (has p.held k) b.0 a)
same_reply p k after Held (Elsewhere d) a b = absurd (no_reply (has p.held k) b.0 a)
same_reply p k after (Pending s) Held a b = absurd (no_reply (has p.held k) a.0 b)
same_reply p k after (Moved d n) Held a b = absurd (no_reply (has p.held k) a.0 b)
same_reply p k after Behind Held a b = absurd (no_reply (has p.held k) a.0 b)
same_reply p k after (Elsewhere d) Held a b = absurd (no_reply (has p.held k) a.0 b)
same_reply p k after (Pending s) (Pending t) a b =
    let x = a.1 in
    let y = b.1 in
    let c : x.1 ≡ y.1 = same_greatest _ x.1 y.1 x.3 y.3 in
    let o = x.5 in
    let q = y.5 in
    let e : o.0 ≡ q.0 = same_change p y.1 o.0 q.0 (subst (λ n. known_to p n ≡ Some o.0) c o.1) q.1 in
    ap Pending (o.2 ∙ ap (λ c. owner_of c.old k) e ∙ sym q.2)
same_reply p k after (Pending s) (Moved d n) a b = let x = a.1 in absurd (awaited p k x.0 x.1 n b.2.0 x.2 x.3 b.1 b.2.1 x.4 b.2.2)
same_reply p k after (Pending s) Behind a b = let x = a.1 in let y = b.1 in absurd (awaited p k x.0 x.1 y.0 y.1 x.2 x.3 y.2 y.3 x.4 y.4)
same_reply p k after (Pending s) (Elsewhere d) a b = let x = a.1 in let y = b.1 in absurd (awaited p k x.0 x.1 y.0 y.1 x.2 x.3 y.2 y.3 x.4 y.4)
same_reply p k after (Moved d n) (Pending s) a b = let x = b.1 in absurd (awaited p k x.0 x.1 n a.2.0 x.2 x.3 a.1 a.2.1 x.4 a.2.2)
same_reply p k after Behind (Pending s) a b = let x = b.1 in let y = a.1 in absurd (awaited p k x.0 x.1 y.0 y.1 x.2 x.3 y.2 y.3 x.4 y.4)
same_reply p k after (Elsewhere d) (Pending s) a b = let x = b.1 in let y = a.1 in absurd (awaited p k x.0 x.1 y.0 y.1 x.2 x.3 y.2 y.3 x.4 y.4)
same_reply p k after (Moved d n) (Moved e m) a b =
    let c : n ≡ m = same_greatest _ n m a.1 b.1 in
    let o = a.4 in
    let q = b.4 in
    let same : o.0 ≡ q.0 = same_change p m o.0 q.0 (subst (λ n. known_to p n ≡ Some o.0) c o.1) q.1 in
    let to : d ≡ e = o.2 ∙ ap (λ c. owner_of c.new k) same ∙ sym q.2 in
    λ i. Moved (to i) (c i)
same_reply p k after (Moved d n) Behind a b = let y = b.1 in absurd (given_after p k n y.0 after a.1 y.2 a.3 y.5)
same_reply p k after (Moved d n) (Elsewhere e) a b = let y = b.1 in absurd (given_after p k n y.0 after a.1 y.2 a.3 y.5)
same_reply p k after Behind (Moved d n) a b = let y = a.1 in absurd (given_after p k n y.0 after b.1 y.2 b.3 y.5)
same_reply p k after (Elsewhere e) (Moved d n) a b = let y = a.1 in absurd (given_after p k n y.0 after b.1 y.2 b.3 y.5)
same_reply p k after Behind Behind a b = refl
same_reply p k after Behind (Elsewhere d) a b = absurd (omega (arith, a.2, b.2))
same_reply p k after (Elsewhere d) Behind a b = absurd (omega (arith, a.2, b.2))
same_reply p k after (Elsewhere d) (Elsewhere e) a b = ap Elsewhere (a.3 ∙ sym b.3)
