-- Laws of entries: none begins another, and a log that is cut off is read up to the cut (this project's form).
use Rattle.std.proofs.Common.{◌≡◌, ℕ, zero, suc, ◌+◌, ◌-◌, ◌<◌, ◌≤◌, List, [], ◌∷◌, ◌++◌, length, take, refl, sym, ap, subst, ◌∙◌, append_assoc, arith, inl, inr, length-append}
use Rattle.std.specs.List.{AllByRecursion}
use Rattle.std.specs.Int.{w32, to_be_bytes, from_be_bytes}
use Rattle.std.proofs.Math.Seq.{take-append-add}
use Rattle.std.proofs.lemmas.Bool.{cases_lt}
use Rattle.std.proofs.lemmas.List.{take_at, append_cancel_left, length-take, nil_from_length}
use Rattle.std.proofs.lemmas.Nat.{from_be_bytes-to_be_bytes_4}
use Rattle.squall_log.specs.declared.entry.End.{End}
use Rattle.squall_log.specs.declared.entry.End.TheVariants.{Whole, Torn, Damaged}
use Rattle.squall_log.specs.Entries.{payload_limit, sum_of, head, entry, entries, IsTorn, EndsIn, IsRead, IsCut}

-- ---- parts of equal lengths

pub split_same : {X : Type 0} (a b x y : List X) → length a ≡ length b → a ++ x ≡ b ++ y → (a ≡ b) × (x ≡ y)
split_same a b x y len e =
    let same : a ≡ b = sym (take_at a x (length b) len) ∙ ap (take (length b)) e ∙ take_at b y (length b) refl in
    (same, append_cancel_left b x y (ap (λ (z : _). z ++ x) (sym same) ∙ e))

pub word_length : (n : ℕ) → length (to_be_bytes w32 n) ≡ 4
word_length n = refl

pub sum_length : (bytes : List ℕ) → length (sum_of bytes) ≡ 4
unfolding sum_of
sum_length bytes = refl

pub head_length : (n : ℕ) → length (head n) ≡ 8
unfolding head sum_of
head_length n = refl

word_same : (n m : ℕ) → n ≤ payload_limit → m ≤ payload_limit → to_be_bytes w32 n ≡ to_be_bytes w32 m → n ≡ m
word_same n m le too e = sym (from_be_bytes-to_be_bytes_4 n (omega arith)) ∙ ap (from_be_bytes w32) e ∙ from_be_bytes-to_be_bytes_4 m (omega arith)

words_same : (n m : ℕ) → head n ≡ head m → to_be_bytes w32 n ≡ to_be_bytes w32 m
unfolding head
words_same n m e = (split_same (to_be_bytes w32 n) (to_be_bytes w32 m) (sum_of (to_be_bytes w32 n)) (sum_of (to_be_bytes w32 m)) refl e).0

-- no head begins another
pub one_head : (n m : ℕ) (x y : List ℕ) → n ≤ payload_limit → m ≤ payload_limit → head n ++ x ≡ head m ++ y → (n ≡ m) × (x ≡ y)
one_head n m x y le too e =
    let parts = split_same (head n) (head m) x y (head_length n ∙ sym (head_length m)) e in
    (word_same n m le too (words_same n m parts.0), parts.1)

-- ---- entries

pub entry_parts : (p x : List ℕ) → entry p ++ x ≡ head (length p) ++ (sum_of p ++ (p ++ x))
entry_parts p x = append_assoc (head (length p)) (sum_of p ++ p) x ∙ ap (λ (z : List ℕ). head (length p) ++ z) (append_assoc (sum_of p) p x)

pub entry_length : (p : List ℕ) → length (entry p) ≡ 12 + length p
entry_length p = omega (arith, length-append (head (length p)) (sum_of p ++ p), length-append (sum_of p) p, head_length (length p), sum_length p)

-- no entry begins another, and each payload has one
pub one_entry : (p q x y : List ℕ) → length p ≤ payload_limit → length q ≤ payload_limit → entry p ++ x ≡ entry q ++ y → (p ≡ q) × (x ≡ y)
one_entry p q x y le too e =
    let heads = one_head (length p) (length q) (sum_of p ++ (p ++ x)) (sum_of q ++ (q ++ y)) le too (sym (entry_parts p x) ∙ e ∙ entry_parts q y) in
    let sums = split_same (sum_of p) (sum_of q) (p ++ x) (q ++ y) (sum_length p ∙ sym (sum_length q)) heads.1 in
    split_same p q x y heads.0 sums.1

-- ---- ends

not_nil : (a x : List ℕ) → 0 < length a → a ++ x ≡ [] → ⊥
not_nil [] x lt e = absurd (omega arith)
not_nil (b ∷ a) x lt e = absurd cc

pub entry_not_nil : (p x : List ℕ) → entry p ++ x ≡ [] → ⊥
entry_not_nil p x e = not_nil (entry p) x (omega (arith, entry_length p)) e

pub entry_not_torn : (p x : List ℕ) → length p ≤ payload_limit → IsTorn (entry p ++ x) → ⊥
entry_not_torn p x le (inl few) = absurd (omega (arith, few.0, few.1, length-append (entry p) x, entry_length p))
entry_not_torn p x le (inr t) =
    let heads = one_head (length p) t.0 (sum_of p ++ (p ++ x)) t.1 le t.2 (sym (entry_parts p x) ∙ t.3) in
    let size : length (sum_of p ++ (p ++ x)) ≡ length t.1 = ap length heads.1 in
    let few : length t.1 < 4 + t.0 = t.4 in
    absurd (omega (arith, size, few, heads.0, length-append (sum_of p) (p ++ x), length-append p x, sum_length p))

nil_not_torn : IsTorn [] → ⊥
nil_not_torn (inl few) = absurd (omega (arith, few.0))
nil_not_torn (inr t) = not_nil (head t.0) t.1 (omega (arith, head_length t.0)) (sym t.3)

-- how bytes end
pub ends_alike : (e f : End) (r : List ℕ) → EndsIn e r → EndsIn f r → e ≡ f
ends_alike Whole Whole r p q = refl
ends_alike Whole Torn r p q = absurd (nil_not_torn (subst IsTorn p q))
ends_alike Whole Damaged r p q = absurd (q.some p)
ends_alike Torn Whole r p q = absurd (nil_not_torn (subst IsTorn q p))
ends_alike Torn Torn r p q = refl
ends_alike Torn Damaged r p q = absurd (q.torn p)
ends_alike Damaged Whole r p q = absurd (p.some q)
ends_alike Damaged Torn r p q = absurd (p.torn q)
ends_alike Damaged Damaged r p q = refl

-- bytes that end begin with no entry
no_entry_left : (e : End) (p x : List ℕ) → length p ≤ payload_limit → EndsIn e (entry p ++ x) → ⊥
no_entry_left Whole p x le h = entry_not_nil p x h
no_entry_left Torn p x le h = entry_not_torn p x le h
no_entry_left Damaged p x le h = h.whole (p, x, le, refl)

-- ---- one reading

pub one_reading : (bytes : List ℕ) (ps qs : List (List ℕ)) (e f : End) (r s : List ℕ) → IsRead bytes ps e r → IsRead bytes qs f s → (ps ≡ qs) × (e ≡ f) × (r ≡ s)
one_reading bytes [] [] e f r s a b =
    let same : r ≡ s = sym a.whole ∙ b.whole in
    (refl, ends_alike e f s (subst (EndsIn e) same a.ends) b.ends, same)
one_reading bytes [] (q ∷ qs) e f r s a b =
    let parts : r ≡ entry q ++ (entries qs ++ s) = sym a.whole ∙ b.whole ∙ append_assoc (entry q) (entries qs) s in
    absurd (no_entry_left e q (entries qs ++ s) b.short.0 (subst (EndsIn e) parts a.ends))
one_reading bytes (p ∷ ps) [] e f r s a b =
    let parts : s ≡ entry p ++ (entries ps ++ r) = sym b.whole ∙ a.whole ∙ append_assoc (entry p) (entries ps) r in
    absurd (no_entry_left f p (entries ps ++ r) a.short.0 (subst (EndsIn f) parts b.ends))
one_reading bytes (p ∷ ps) (q ∷ qs) e f r s a b =
    let parts : entry p ++ (entries ps ++ r) ≡ entry q ++ (entries qs ++ s) = sym (append_assoc (entry p) (entries ps) r) ∙ sym a.whole ∙ b.whole ∙ append_assoc (entry q) (entries qs) s in
    let first = one_entry p q (entries ps ++ r) (entries qs ++ s) a.short.0 b.short.0 parts in
    let others = one_reading (entries ps ++ r) ps qs e f r s (record { short = a.short.1; whole = refl; ends = a.ends }) (record { short = b.short.1; whole = first.1; ends = b.ends }) in
    (ap (λ (x : List ℕ). x ∷ ps) first.0 ∙ ap (λ (xs : List (List ℕ)). q ∷ xs) others.0, others.1, others.2)

-- ---- a log that is cut off

-- what there is to read of the first n bytes of the entries of all payloads
record CutRead (all : List (List ℕ)) (n : ℕ) : Type 0 where
  done : List (List ℕ)
  end : End
  rest : List ℕ
  read : IsRead (take n (entries all)) done end rest
  cut : IsCut all done n end rest

cut_in_head : (p x : List ℕ) (n : ℕ) → 0 < n → n < 8 → IsTorn (take n (entry p ++ x))
cut_in_head p x n some few =
    let size : length (take n (entry p ++ x)) ≡ n = omega (arith, length-take n (entry p ++ x), length-append (entry p) x, entry_length p) in
    inl (omega (arith, size), omega (arith, size))

cut_in_payload : (p x : List ℕ) (n : ℕ) → length p ≤ payload_limit → 8 ≤ n → n < length (entry p) → IsTorn (take n (entry p ++ x))
cut_in_payload p x n le past few =
    let tail : List ℕ = sum_of p ++ (p ++ x) in
    let sums : n ≡ length (head (length p)) + (n - 8) = omega (arith, head_length (length p)) in
    let parts : take n (entry p ++ x) ≡ head (length p) ++ take (n - 8) tail =
    ap (take n) (entry_parts p x) ∙ ap (λ (k : ℕ). take k (head (length p) ++ tail)) sums ∙ take-append-add (head (length p)) tail (n - 8) in
    inr (length p, take (n - 8) tail, le, parts, omega (arith, length-take (n - 8) tail, entry_length p))

none_whole : (p : List ℕ) (ps : List (List ℕ)) (n : ℕ) (end : End) (rest : List ℕ) → n < length (entry p) → (end ≡ Damaged → ⊥) → IsCut (p ∷ ps) [] n end rest
none_whole p ps n end rest lt sound = record {
  later = p ∷ ps;
  parts = refl;
  within = omega arith;
  next = λ q qs e. let same : p ≡ q = cc in subst (λ (z : List ℕ). n < 0 + length (entry z)) same (omega arith);
  undamaged = sound;
}

whole_is_sound : Whole ≡ Damaged → ⊥
whole_is_sound e = cc

torn_is_sound : Torn ≡ Damaged → ⊥
torn_is_sound e = cc

cut_first : (p : List ℕ) (ps : List (List ℕ)) (n : ℕ) → length p ≤ payload_limit → n < length (entry p) → CutRead (p ∷ ps) n
cut_first p ps zero le lt = record {
  done = [];
  end = Whole;
  rest = [];
  read = record { short = tt; whole = refl; ends = refl };
  cut = none_whole p ps zero Whole [] lt whole_is_sound;
}
cut_first p ps (suc m) le lt = record {
  done = [];
  end = Torn;
  rest = take (suc m) (entry p ++ entries ps);
  read = record {
    short = tt;
    whole = refl;
    ends = elim (cases_lt (suc m) 8) [
      | inl few ↦ cut_in_head p (entries ps) (suc m) (omega arith) few
      | inr past ↦ cut_in_payload p (entries ps) (suc m) le past lt
    ];
  };
  cut = none_whole p ps (suc m) Torn _ lt torn_is_sound;
}

cut_later : (p : List ℕ) (ps : List (List ℕ)) (n : ℕ) → length p ≤ payload_limit → length (entry p) ≤ n → CutRead ps (n - length (entry p)) → CutRead (p ∷ ps) n
cut_later p ps n le past c =
    let sums : n ≡ length (entry p) + (n - length (entry p)) = omega arith in
    let parts : take n (entry p ++ entries ps) ≡ entry p ++ take (n - length (entry p)) (entries ps) =
    ap (λ (k : ℕ). take k (entry p ++ entries ps)) sums ∙ take-append-add (entry p) (entries ps) (n - length (entry p)) in
    let size : length (entry p ++ entries c.done) ≡ length (entry p) + length (entries c.done) = length-append (entry p) (entries c.done) in
    record {
      done = p ∷ c.done;
      end = c.end;
      rest = c.rest;
      read = record {
        short = (le, c.read.short);
        whole = parts ∙ ap (λ (z : List ℕ). entry p ++ z) c.read.whole ∙ sym (append_assoc (entry p) (entries c.done) c.rest);
        ends = c.read.ends;
      };
      cut = record {
        later = c.cut.later;
        parts = ap (λ (z : List (List ℕ)). p ∷ z) c.cut.parts;
        within = let within : length (entries c.done) ≤ n - length (entry p) = c.cut.within in omega (arith, size);
        next = λ q qs e. let next : n - length (entry p) < length (entries c.done) + length (entry q) = c.cut.next q qs e in omega (arith, size);
        undamaged = c.cut.undamaged;
      };
    }

cut_read : (all : List (List ℕ)) (n : ℕ) → AllByRecursion (λ p. length p ≤ payload_limit) all → CutRead all n
cut_read [] n short = record {
  done = [];
  end = Whole;
  rest = [];
  read = record { short = tt; whole = nil_from_length (take n []) (omega (arith, length-take {A = ℕ} n [])); ends = refl };
  cut = record { later = []; parts = refl; within = omega arith; next = λ q qs e. absurd (let no : [] ≡ q ∷ qs = e in cc); undamaged = whole_is_sound };
}
cut_read (p ∷ ps) n short = elim (cases_lt n (length (entry p))) [
  | inl lt ↦ cut_first p ps n short.0 lt
  | inr past ↦ cut_later p ps n short.0 past (cut_read ps (n - length (entry p)) short.1)
]

-- a torn tail is cut
pub a_cut_log : (all : List (List ℕ)) (n : ℕ) (done : List (List ℕ)) (e : End) (r : List ℕ) → AllByRecursion (λ p. length p ≤ payload_limit) all → IsRead (take n (entries all)) done e r → IsCut all done n e r
a_cut_log all n done e r short read =
    let c = cut_read all n short in
    let same = one_reading (take n (entries all)) c.done done c.end e c.rest r c.read read in
    subst (λ (d : List (List ℕ)). IsCut all d n e r) same.0
    (subst (λ (x : End). IsCut all c.done n x r) same.1
    (subst (λ (s : List ℕ). IsCut all c.done n c.end s) same.2 c.cut))
