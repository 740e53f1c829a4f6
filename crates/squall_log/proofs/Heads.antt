-- What a head says, and bytes that are damaged.
use Rattle.std.proofs.Common.{◌≡◌, ℕ, ◌+◌, ◌<◌, ◌≤◌, List, [], ◌++◌, length, get_or, take, drop, refl, sym, ap, subst, ◌∙◌, arith, inl, inr, length-append}
use Rattle.std.specs.Prelude.{◌≢◌}
use Rattle.std.specs.Int.{w32, to_be_bytes, from_be_bytes}
use Rattle.std.proofs.lemmas.List.{take-append-drop, get_or-take, get_or_past, length-take}
use Rattle.std.proofs.lemmas.Bool.{cases_lt}
use Rattle.std.proofs.lemmas.Nat.{be_bytes_4, from_be_bytes-to_be_bytes_4}
use Rattle.squall_log.specs.Entries.{payload_limit, sum_of, head, BeginsWithEntry, IsTorn, IsDamaged}
use Rattle.squall_log.specs.EntryLaws.{split_same, one_head, entry_parts, head_length, sum_length}

-- the head of that length begins with these four bytes, and has their checksum
pub says_head : (word sum : List ℕ) (n : ℕ) → length word ≡ 4 → n ≤ payload_limit → word ++ sum ≡ head n → (from_be_bytes w32 word ≡ n) × (sum ≡ sum_of word)
unfolding head
says_head word sum n len le e =
    let parts = split_same word (to_be_bytes w32 n) sum (sum_of (to_be_bytes w32 n)) len e in
    (ap (from_be_bytes w32) parts.0 ∙ from_be_bytes-to_be_bytes_4 n (omega arith), parts.1 ∙ ap sum_of (sym parts.0))

-- four bytes and their checksum are the head of their number
pub is_head : (word sum : List ℕ) → length word ≡ 4 → ((i : ℕ) → get_or word i 0 < 256) → sum ≡ sum_of word → word ++ sum ≡ head (from_be_bytes w32 word)
unfolding head
is_head word sum len fits e =
    let back : to_be_bytes w32 (from_be_bytes w32 word) ≡ word = be_bytes_4 word (from_be_bytes w32 word) len fits refl in
    ap (λ (s : List ℕ). word ++ s) e ∙ ap (λ (w : List ℕ). w ++ sum_of w) (sym back)

some_bytes : (a x : List ℕ) → 0 < length a → a ++ x ≡ [] → ⊥
some_bytes a x lt e = absurd (omega (arith, length-append a x, ap length e))

-- a head with no entry and enough bytes after it
pub damaged_after_head : (n : ℕ) (sum payload rest : List ℕ) → n ≤ payload_limit → length sum ≡ 4 → length payload ≡ n → sum ≢ sum_of payload
    → IsDamaged (head n ++ (sum ++ (payload ++ rest)))
damaged_after_head n sum payload rest le four len other = record {
  some = some_bytes (head n) (sum ++ (payload ++ rest)) (omega (arith, head_length n));
  torn = torn;
  whole = whole;
}
  where
    size : length (sum ++ (payload ++ rest)) ≡ 4 + (n + length rest)
    size = omega (arith, length-append sum (payload ++ rest), length-append payload rest)

    torn : IsTorn (head n ++ (sum ++ (payload ++ rest))) → ⊥
    torn (inl few) = absurd (omega (arith, few.1, length-append (head n) (sum ++ (payload ++ rest)), head_length n))
    torn (inr t) =
        let heads = one_head n t.0 (sum ++ (payload ++ rest)) t.1 le t.2 t.3 in
        absurd (omega (arith, size, t.4, heads.0, ap length heads.1))

    whole : BeginsWithEntry (head n ++ (sum ++ (payload ++ rest))) → ⊥
    whole b =
        let heads = one_head n (length b.0) (sum ++ (payload ++ rest)) (sum_of b.0 ++ (b.0 ++ b.1)) le b.2 (b.3 ∙ entry_parts b.0 b.1) in
        let sums = split_same sum (sum_of b.0) (payload ++ rest) (b.0 ++ b.1) (four ∙ sym (sum_length b.0)) heads.1 in
        let payloads = split_same payload b.0 rest b.1 (len ∙ heads.0) sums.1 in
        other (sums.0 ∙ ap sum_of (sym payloads.0))

-- eight bytes that are no head, and any after them
pub damaged_head : (front rest : List ℕ) → length front ≡ 8 → ((n : ℕ) → n ≤ payload_limit → front ≢ head n) → IsDamaged (front ++ rest)
damaged_head front rest len other = record {
  some = some_bytes front rest (omega arith);
  torn = torn;
  whole = λ b. other (length b.0) b.2 (split_same front (head (length b.0)) rest (sum_of b.0 ++ (b.0 ++ b.1)) (len ∙ sym (head_length (length b.0))) (b.3 ∙ entry_parts b.0 b.1)).0;
}
  where
    torn : IsTorn (front ++ rest) → ⊥
    torn (inl few) = absurd (omega (arith, few.1, length-append front rest))
    torn (inr t) = other t.0 t.2 (split_same front (head t.0) rest t.1 (len ∙ sym (head_length t.0)) t.3).0

-- ---- what the reader has of them

pub two_parts : (k : ℕ) (all front back : List ℕ) → front ≡ take k all → back ≡ drop k all → front ++ back ≡ all
two_parts k all front back f b = ap (λ (z : List ℕ). z ++ back) f ∙ ap (λ (z : List ℕ). take k all ++ z) b ∙ take-append-drop k all

pub not_too_great : (front word sum : List ℕ) (size n : ℕ) → length word ≡ 4 → word ++ sum ≡ front → size ≡ from_be_bytes w32 word → payload_limit < size
    → n ≤ payload_limit → front ≡ head n → ⊥
not_too_great front word sum size n len parts is big le e =
    let said : from_be_bytes w32 word ≡ n = (says_head word sum n len le (parts ∙ e)).0 in
    absurd (omega (arith, said))

pub not_that_sum : (front word sum : List ℕ) (n : ℕ) → length word ≡ 4 → word ++ sum ≡ front → (sum ≡ sum_of word → ⊥) → n ≤ payload_limit → front ≡ head n → ⊥
not_that_sum front word sum n len parts other le e = other (says_head word sum n len le (parts ∙ e)).1

taken_fits : (k : ℕ) (all : List ℕ) → ((i : ℕ) → get_or all i 0 < 256) → (i : ℕ) → get_or (take k all) i 0 < 256
taken_fits k all fits i = elim (cases_lt i k) [
  | inl lt ↦ rw (get_or-take k all i 0 lt) (fits i)
  | inr le ↦ rw (get_or_past (take k all) i 0 (omega (arith, length-take k all))) (omega arith)
]

pub is_that_head : (front word sum : List ℕ) (size : ℕ) → ((i : ℕ) → get_or front i 0 < 256) → word ≡ take 4 front → sum ≡ drop 4 front → length word ≡ 4
    → size ≡ from_be_bytes w32 word → sum ≡ sum_of word → front ≡ head size
is_that_head front word sum size fits f b len e same =
    let word_fits : (i : ℕ) → get_or word i 0 < 256 = subst (λ (w : List ℕ). (i : ℕ) → get_or w i 0 < 256) (sym f) (taken_fits 4 front fits) in
    sym (two_parts 4 front word sum f b) ∙ is_head word sum len word_fits same ∙ ap head (sym e)
