-- Stores that are alike, and stores that are the same: the calls of the same records lead to the same store.
use Rattle.std.proofs.Common.{◌≡◌, ℕ, true, List, [], ◌∷◌, ◌++◌, Option, None, Some, refl, sym, ap, subst, ◌∙◌, inl, inr}
use Rattle.std.specs.Prelude.{◌&&◌, not}
use Rattle.std.proofs.lemmas.Bool.{cases_Bool, cases_eq}
use Rattle.squall_span.specs.Spans.{Interval, has, span_has}
use Rattle.squall_protocol.specs.Chunks.{ChunkValue}
use Rattle.squall_part.specs.Parts.{PartValue, IsPart, loaded_by}
use Rattle.squall_part.specs.Loading.{is_new}
use Rattle.squall_replay.specs.declared.call.Call.{Call}
use Rattle.squall_replay.specs.declared.call.Call.TheVariants.{Load as LoadCall}
use Rattle.squall_replay.specs.declared.call.Answer.{Answer as PartAnswer}
use Rattle.squall_replay.specs.Calls.{Happens, IsSamePart, Replays}
use Rattle.squall_store.specs.Memory.{Values, value_at}
use Rattle.squall_store_log.specs.declared.record.Record.{Record}
use Rattle.squall_store_log.specs.declared.record.Record.TheVariants.{Put, Delete, Give, GiveAt, Load, Absorb, Finish, Close}
use Rattle.squall_store_log.specs.declared.answer.Answer.{Answer}
use Rattle.squall_store_log.specs.declared.answer.Answer.TheVariants.{Row, Part}
use Rattle.squall_store_log.specs.Steps.{Rows, IsAlike, IsSameStore, Sets, Calls, Loads, Makes, Comes}

-- ---- alike

pub alike_itself : (s : Rows) → IsAlike s s
alike_itself s = record { part = refl; rows = λ k h. refl }

held_alike : (s t : Rows) → IsAlike s t → (k : ℕ) → has t.part.held k ≡ true → has s.part.held k ≡ true
held_alike s t a k h = ap (λ (p : PartValue). has p.held k) (sym a.part) ∙ h

held_there : (s t : Rows) → IsAlike s t → (k : ℕ) → has s.part.held k ≡ true → has t.part.held k ≡ true
held_there s t a k h = ap (λ (p : PartValue). has p.held k) a.part ∙ h

pub alike_on : (s t u : Rows) → IsAlike s t → IsAlike t u → IsAlike s u
alike_on s t u a b = record { part = b.part ∙ a.part; rows = λ k h. b.rows k (held_there s t a k h) ∙ a.rows k h }

sets_from : (s t u : Rows) (key : ℕ) (row : Option (List ℕ)) → IsAlike s t → Sets t key row u → Sets s key row u
sets_from s t u key row a m = record {
  held = held_alike s t a key m.held;
  part = m.part ∙ a.part;
  now = m.now;
  others = λ k other h. m.others k other (held_there s t a k h) ∙ a.rows k h;
}

before_from : (s t u : Rows) (key : ℕ) (row before : Option (List ℕ)) → IsAlike s t → Sets t key row u → before ≡ value_at t.rows key → before ≡ value_at s.rows key
before_from s t u key row before a m e = e ∙ a.rows key (held_alike s t a key m.held)

calls_from : (s t u : Rows) (call : Call) (answer : PartAnswer) → IsAlike s t → Calls t call answer u → Calls s call answer u
calls_from s t u call answer a m = record {
  happens = subst (λ (p : PartValue). Happens p call answer u.part) a.part m.happens;
  left = m.left;
  held = λ k h. held_alike s t a k (m.held k h);
  rows = λ k h. m.rows k h ∙ a.rows k (held_alike s t a k (m.held k h));
}

loads_from : (s t u : Rows) (c : ChunkValue) (rows : Values) (answer : PartAnswer) → IsAlike s t → Loads t c rows answer u → Loads s c rows answer u
loads_from s t u c rows answer a m =
    let new_there : (k : ℕ) → is_new s.part c k ≡ is_new t.part c k = λ k. ap (λ (p : PartValue). is_new p c k) (sym a.part) in
    record {
      happens = subst (λ (p : PartValue). Happens p (LoadCall c) answer u.part) a.part m.happens;
      left = m.left;
      held = λ k h n. held_alike s t a k (m.held k h (sym (new_there k) ∙ n));
      fresh = λ k n. m.fresh k (sym (new_there k) ∙ n);
      others = λ k n h. m.others k (sym (new_there k) ∙ n) (held_there s t a k h) ∙ a.rows k h;
    }

-- what is made of a store is made of one that is alike
pub makes_from : (s t u : Rows) (r : Record) (answer : Answer) → IsAlike s t → Makes t r answer u → Makes s r answer u
makes_from s t u (Put key value) (Row before) a m = (sets_from s t u key (Some value) a m.0, before_from s t u key (Some value) before a m.0 m.1)
makes_from s t u (Delete key) (Row before) a m = (sets_from s t u key None a m.0, before_from s t u key None before a m.0 m.1)
makes_from s t u (Give most) (Part answer) a m = calls_from s t u _ answer a m
makes_from s t u (GiveAt key) (Part answer) a m = calls_from s t u _ answer a m
makes_from s t u (Load chunk rows) (Part answer) a m = loads_from s t u chunk rows answer a m
makes_from s t u (Absorb delta) (Part answer) a m = calls_from s t u _ answer a m
makes_from s t u (Finish sub) (Part answer) a m = calls_from s t u _ answer a m
makes_from s t u Close (Part answer) a m = calls_from s t u _ answer a m
makes_from s t u (Put key value) (Part answer) a m = m
makes_from s t u (Delete key) (Part answer) a m = m
makes_from s t u (Give most) (Row before) a m = m
makes_from s t u (GiveAt key) (Row before) a m = m
makes_from s t u (Load chunk rows) (Row before) a m = m
makes_from s t u (Absorb delta) (Row before) a m = m
makes_from s t u (Finish sub) (Row before) a m = m
makes_from s t u Close (Row before) a m = m

-- ---- one more call, and logs that are put together

pub comes_on : (s t u : Rows) (records : List Record) (r : Record) (answer : Answer) → Comes s records t → Makes t r answer u → Comes s (records ++ (r ∷ [])) u
comes_on s t u [] r answer a m = (u, (answer, makes_from s t u r answer a m), alike_itself u)
comes_on s t u (q ∷ records) r answer c m = (c.0, c.1, comes_on c.0 t u records r answer c.2 m)

pub comes_alike : (s t u : Rows) (records : List Record) → Comes s records t → IsAlike t u → Comes s records u
comes_alike s t u [] a b = alike_on s t u a b
comes_alike s t u (r ∷ records) c b = (c.0, c.1, comes_alike c.0 t u records c.2 b)

-- the store that was there after the first records
pub comes_by : (s t : Rows) (done later : List Record) → Comes s (done ++ later) t → (u : Rows) × Comes s done u × Comes u later t
comes_by s t [] later c = (s, alike_itself s, c)
comes_by s t (r ∷ done) later c =
    let rest = comes_by c.0 t done later c.2 in
    (rest.0, (c.0, c.1, rest.1), rest.2)

-- ---- the same

-- no call tells apart partitions that came about by the same calls
abbrev pub OnePartition : Type 0
OnePartition =
    (p q r s : PartValue) (calls : List Call) (first second : List PartAnswer) → IsPart p → IsPart q → IsSamePart p q
    → Replays p calls first r → Replays q calls second s → IsSamePart r s

pub record AreSame (s t : Rows) : Type 0 where
  pub same : IsSameStore s t
  pub is : IsPart s.part
  pub too : IsPart t.part

same_alike : (s t s2 t2 : Rows) → AreSame s t → IsAlike s s2 → IsAlike t t2 → AreSame s2 t2
same_alike s t s2 t2 e a b =
    let parts : IsSamePart s2.part t2.part =
    subst (λ (p : PartValue). IsSamePart p t2.part) (sym a.part) (subst (λ (p : PartValue). IsSamePart s.part p) (sym b.part) e.same.part) in
    record {
      same = record {
        part = parts;
        rows = λ k h.
            let here : has s.part.held k ≡ true = held_alike s s2 a k h in
            let there : has t.part.held k ≡ true = ap (λ (ss : List Interval). has ss k) (sym e.same.part.held) ∙ here in
            b.rows k there ∙ e.same.rows k here ∙ sym (a.rows k here);
      };
      is = subst IsPart (sym a.part) e.is;
      too = subst IsPart (sym b.part) e.too;
    }

same_sets : (s t s2 t2 : Rows) (key : ℕ) (row : Option (List ℕ)) → AreSame s t → Sets s key row s2 → Sets t key row t2 → AreSame s2 t2
same_sets s t s2 t2 key row e m n =
    let parts : IsSamePart s2.part t2.part =
    subst (λ (p : PartValue). IsSamePart p t2.part) (sym m.part) (subst (λ (p : PartValue). IsSamePart s.part p) (sym n.part) e.same.part) in
    record {
      same = record {
        part = parts;
        rows = λ k h.
            let here : has s.part.held k ≡ true = ap (λ (p : PartValue). has p.held k) (sym m.part) ∙ h in
            let there : has t.part.held k ≡ true = ap (λ (ss : List Interval). has ss k) (sym e.same.part.held) ∙ here in
            elim (cases_eq k key) [
              | inl is_key ↦ ap (value_at t2.rows) is_key ∙ n.now ∙ sym m.now ∙ ap (value_at s2.rows) (sym is_key)
              | inr other ↦ n.others k other there ∙ e.same.rows k here ∙ sym (m.others k other here)
            ];
      };
      is = subst IsPart (sym m.part) e.is;
      too = subst IsPart (sym n.part) e.too;
    }

one_call : (p : PartValue) (call : Call) (answer : PartAnswer) (q : PartValue) → IsPart q → Happens p call answer q → Replays p (call ∷ []) (answer ∷ []) q
one_call p call answer q is h = (q, is, h, refl)

same_calls : OnePartition → (s t s2 t2 : Rows) (call : Call) (a b : PartAnswer) → AreSame s t → Calls s call a s2 → Calls t call b t2 → AreSame s2 t2
same_calls law s t s2 t2 call a b e m n =
    let parts : IsSamePart s2.part t2.part =
    law s.part t.part s2.part t2.part (call ∷ []) (a ∷ []) (b ∷ []) e.is e.too e.same.part (one_call s.part call a s2.part m.left m.happens) (one_call t.part call b t2.part n.left n.happens) in
    record {
      same = record {
        part = parts;
        rows = λ k h.
            let after : has t2.part.held k ≡ true = ap (λ (ss : List Interval). has ss k) (sym parts.held) ∙ h in
            n.rows k after ∙ e.same.rows k (m.held k h) ∙ sym (m.rows k h);
      };
      is = m.left;
      too = n.left;
    }

same_new : (p q : PartValue) (c : ChunkValue) → IsSamePart p q → (k : ℕ) → is_new p c k ≡ is_new q c k
same_new p q c e k =
    ap (λ (loaded : List Interval). (span_has c.span k && not (has loaded k)) && not (has p.held k)) (e.loaded c.number)
    ∙ ap (λ (held : List Interval). (span_has c.span k && not (has (loaded_by q c.number) k)) && not (has held k)) e.held

same_loads : OnePartition → (s t s2 t2 : Rows) (c : ChunkValue) (rows : Values) (a b : PartAnswer) → AreSame s t → Loads s c rows a s2 → Loads t c rows b t2 → AreSame s2 t2
same_loads law s t s2 t2 c rows a b e m n =
    let parts : IsSamePart s2.part t2.part =
    law s.part t.part s2.part t2.part (LoadCall c ∷ []) (a ∷ []) (b ∷ []) e.is e.too e.same.part
    (one_call s.part (LoadCall c) a s2.part m.left m.happens) (one_call t.part (LoadCall c) b t2.part n.left n.happens) in
    record {
      same = record {
        part = parts;
        rows = λ k h. elim (cases_Bool (is_new s.part c k)) [
          | inl fresh ↦ n.fresh k (sym (same_new s.part t.part c e.same.part k) ∙ fresh) ∙ sym (m.fresh k fresh)
          | inr old ↦
              let here : has s.part.held k ≡ true = m.held k h old in
              let there : has t.part.held k ≡ true = ap (λ (ss : List Interval). has ss k) (sym e.same.part.held) ∙ here in
              n.others k (sym (same_new s.part t.part c e.same.part k) ∙ old) there ∙ e.same.rows k here ∙ sym (m.others k old here)
        ];
      };
      is = m.left;
      too = n.left;
    }

pub same_makes : OnePartition → (s t s2 t2 : Rows) (r : Record) (a b : Answer) → AreSame s t → Makes s r a s2 → Makes t r b t2 → AreSame s2 t2
same_makes law s t s2 t2 (Put key value) (Row x) (Row y) e m n = same_sets s t s2 t2 key (Some value) e m.0 n.0
same_makes law s t s2 t2 (Delete key) (Row x) (Row y) e m n = same_sets s t s2 t2 key None e m.0 n.0
same_makes law s t s2 t2 (Give most) (Part a) (Part b) e m n = same_calls law s t s2 t2 _ a b e m n
same_makes law s t s2 t2 (GiveAt key) (Part a) (Part b) e m n = same_calls law s t s2 t2 _ a b e m n
same_makes law s t s2 t2 (Load chunk rows) (Part a) (Part b) e m n = same_loads law s t s2 t2 chunk rows a b e m n
same_makes law s t s2 t2 (Absorb delta) (Part a) (Part b) e m n = same_calls law s t s2 t2 _ a b e m n
same_makes law s t s2 t2 (Finish sub) (Part a) (Part b) e m n = same_calls law s t s2 t2 _ a b e m n
same_makes law s t s2 t2 Close (Part a) (Part b) e m n = same_calls law s t s2 t2 _ a b e m n
same_makes law s t s2 t2 (Put key value) (Part a) b e m n = absurd m
same_makes law s t s2 t2 (Delete key) (Part a) b e m n = absurd m
same_makes law s t s2 t2 (Give most) (Row x) b e m n = absurd m
same_makes law s t s2 t2 (GiveAt key) (Row x) b e m n = absurd m
same_makes law s t s2 t2 (Load chunk rows) (Row x) b e m n = absurd m
same_makes law s t s2 t2 (Absorb delta) (Row x) b e m n = absurd m
same_makes law s t s2 t2 (Finish sub) (Row x) b e m n = absurd m
same_makes law s t s2 t2 Close (Row x) b e m n = absurd m
same_makes law s t s2 t2 (Put key value) (Row x) (Part b) e m n = absurd n
same_makes law s t s2 t2 (Delete key) (Row x) (Part b) e m n = absurd n
same_makes law s t s2 t2 (Give most) (Part a) (Row y) e m n = absurd n
same_makes law s t s2 t2 (GiveAt key) (Part a) (Row y) e m n = absurd n
same_makes law s t s2 t2 (Load chunk rows) (Part a) (Row y) e m n = absurd n
same_makes law s t s2 t2 (Absorb delta) (Part a) (Row y) e m n = absurd n
same_makes law s t s2 t2 (Finish sub) (Part a) (Row y) e m n = absurd n
same_makes law s t s2 t2 Close (Part a) (Row y) e m n = absurd n

-- the same records lead to the same store
pub same_comes : OnePartition → (s t s2 t2 : Rows) (records : List Record) → AreSame s t → Comes s records s2 → Comes t records t2 → AreSame s2 t2
same_comes law s t s2 t2 [] e a b = same_alike s t s2 t2 e a b
same_comes law s t s2 t2 (r ∷ records) e a b =
    same_comes law a.0 b.0 s2 t2 records (same_makes law s t a.0 b.0 r a.1.0 b.1.0 e a.1.1 b.1.1) a.2 b.2
