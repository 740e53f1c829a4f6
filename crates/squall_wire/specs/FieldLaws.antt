-- A field that is read is the one that was spelled, and what was spelled is read again (this project's form).
use Rattle.std.proofs.Common.{◌≡◌, ℕ, suc, ◌+◌, ◌^◌, ◌<◌, ◌≤◌, Bool, true, false, cond, ltb, List, [], ◌∷◌, ◌++◌, length, get_or, take, drop, Result, Ok, Err, refl, sym, ap, subst, ◌∙◌, append_assoc, arith, inl, inr}
use Rattle.std.specs.Int.{Width, w32, w64, byte_len, from_be_bytes, to_be_bytes}
use Rattle.std.proofs.lemmas.Bool.{cases_lt, ltb-false, le-ltb}
use Rattle.std.proofs.lemmas.List.{take_at, drop_at, take-append-drop, length-append, length-take, get_or-drop, get_or-take, get_or_past}
use Rattle.std.proofs.lemmas.Nat.{be_bytes_4, be_bytes_8, from_be_bytes-to_be_bytes_4, from_be_bytes-to_be_bytes_8}
use Rattle.squall_wire.specs.declared.fault.WireFault.{WireFault}
use Rattle.squall_wire.specs.declared.fault.WireFault.TheVariants.{Count}
use Rattle.squall_wire.specs.Limits.{hash_length}
use Rattle.squall_wire.specs.Reading.{◌>>=◌, number_at, byte_at, hash_at, checked}

-- numbers below 256
abbrev pub IsBytes : List ℕ → Type 0
IsBytes bytes = (i : ℕ) → get_or bytes i 0 < 256

pub IsBytes-drop : (n : ℕ) (bytes : List ℕ) → IsBytes bytes → IsBytes (drop n bytes)
IsBytes-drop n bytes h i = rw get_or-drop (h (n + i))

pub IsBytes-take : (n : ℕ) (bytes : List ℕ) → IsBytes bytes → IsBytes (take n bytes)
IsBytes-take n bytes h i =
    elim (cases_lt i n) [
      | inl lt ↦ rw (get_or-take n bytes i 0 lt) (h i)
      | inr le ↦ rw (get_or_past (take n bytes) i 0 (omega (arith, length-take n bytes))) (omega arith)
    ]

-- ---- steps that may fail

-- the value of a step that did not fail
pub bind_ok : {A B : Type 0} (r : Result A WireFault) (f : A → Result B WireFault) (y : B) → (r >>= f) ≡ Ok y → (x : A) × (r ≡ Ok x) × (f x ≡ Ok y)
bind_ok (Ok x) f y e = (x, refl, e)
bind_ok (Err d) f y e = absurd cc

pub bind_from : {A B : Type 0} (r : Result A WireFault) (f : A → Result B WireFault) (x : A) (y : Result B WireFault) → r ≡ Ok x → f x ≡ y → (r >>= f) ≡ y
bind_from (Ok z) f x y e h = let same : z ≡ x = cc in rw same h
bind_from (Err d) f x y e h = absurd cc

abbrev done : {A : Type 0} → A → Result A WireFault
done x = Ok x

pub ok_is : {A : Type 0} (x y : A) → done x ≡ done y → x ≡ y
ok_is x y e = cc

-- a test that did not fail
pub guard_ok : {A : Type 0} (b : Bool) (d : WireFault) (x y : A) → cond b (Err d) (Ok x) ≡ Ok y → (b ≡ false) × (x ≡ y)
guard_ok true d x y e = absurd cc
guard_ok false d x y e = (refl, cc)

-- a value within its limits, and what follows it
pub checked_ok : {A : Type 0} (a b : Bool) (x y : A) → checked a b x ≡ Ok y → (a ≡ true) × (b ≡ true) × (x ≡ y)
checked_ok true true x y e = (refl, refl, ok_is x y e)
checked_ok true false x y e = absurd cc
checked_ok false b x y e = absurd cc

pub checked_from : {A : Type 0} (a b : Bool) (x : A) → a ≡ true → b ≡ true → checked a b x ≡ Ok x
checked_from a b x p q = rw (p, q) refl

pub test_ok : {A B : Type 0} (a : Bool) (x : A) (f : A → Result B WireFault) (y : B) → (checked a true x >>= f) ≡ Ok y → (a ≡ true) × (f x ≡ Ok y)
test_ok true x f y e = (refl, e)
test_ok false x f y e = absurd cc

-- ---- what a reader took from the front

pub record Takes (bytes text rest : List ℕ) : Type 0 where
  pub parts : bytes ≡ text ++ rest
  pub rest_fits : IsBytes rest

pub Takes-none : (bytes : List ℕ) → IsBytes bytes → Takes bytes [] bytes
Takes-none bytes fits = record { parts = refl; rest_fits = fits }

pub Takes-then : (a x b y c : List ℕ) → Takes a x b → Takes b y c → Takes a (x ++ y) c
Takes-then a x b y c p q = record { parts = p.parts ∙ ap (λ (t : List ℕ). x ++ t) q.parts ∙ sym (append_assoc x y c); rest_fits = q.rest_fits }

-- ---- numbers

-- numbers below the limit have one spelling of that many bytes
pub record IsWide (w : Width) (limit : ℕ) : Type 0 where
  pub len : (n : ℕ) → length (to_be_bytes w n) ≡ byte_len w
  pub back : (bytes : List ℕ) → length bytes ≡ byte_len w → IsBytes bytes → to_be_bytes w (from_be_bytes w bytes) ≡ bytes
  pub again : (n : ℕ) → n < limit → from_be_bytes w (to_be_bytes w n) ≡ n
  pub below : (bytes : List ℕ) → IsBytes bytes → from_be_bytes w bytes < limit

pub wide32 : IsWide w32 (2 ^ 32)
wide32 = record {
  len = λ n. refl;
  back = λ bytes len fits. be_bytes_4 bytes _ len fits refl;
  again = λ n lt. from_be_bytes-to_be_bytes_4 n lt;
  below = λ bytes fits. omega (arith, fits 0, fits 1, fits 2, fits 3);
}

pub wide64 : IsWide w64 (2 ^ 64)
wide64 = record {
  len = λ n. refl;
  back = λ bytes len fits. be_bytes_8 bytes _ len fits refl;
  again = λ n lt. from_be_bytes-to_be_bytes_8 n lt;
  below = λ bytes fits. omega (arith, fits 0, fits 1, fits 2, fits 3, fits 4, fits 5, fits 6, fits 7);
}

number_takes : (w : Width) (limit : ℕ) (wide : IsWide w limit) (bytes : List ℕ) (x : ℕ × List ℕ) → IsBytes bytes → number_at w bytes ≡ Ok x → Takes bytes (to_be_bytes w x.0) x.1 × (x.0 < limit)
number_takes w limit wide bytes x fits e =
    let front : List ℕ = take (byte_len w) bytes in
    let rest : List ℕ = drop (byte_len w) bytes in
    let g = guard_ok (ltb (length bytes) (byte_len w)) Count (from_be_bytes w front, rest) x e in
    let long : byte_len w ≤ length bytes = ltb-false _ _ g.0 in
    let front_fits : IsBytes front = IsBytes-take (byte_len w) bytes fits in
    let back : to_be_bytes w (from_be_bytes w front) ≡ front = wide.back front (omega (arith, length-take (byte_len w) bytes)) front_fits in
    let parts : bytes ≡ to_be_bytes w (from_be_bytes w front) ++ rest = sym (take-append-drop (byte_len w) bytes) ∙ ap (λ (t : List ℕ). t ++ rest) (sym back) in
    let took : Takes bytes (to_be_bytes w (from_be_bytes w front)) rest = record { parts = parts; rest_fits = IsBytes-drop (byte_len w) bytes fits } in
    subst (λ (y : ℕ × List ℕ). Takes bytes (to_be_bytes w y.0) y.1 × (y.0 < limit)) g.1 (took, wide.below front front_fits)

number_again : (w : Width) (limit : ℕ) (wide : IsWide w limit) (n : ℕ) (rest : List ℕ) → n < limit → number_at w (to_be_bytes w n ++ rest) ≡ Ok (n, rest)
number_again w limit wide n rest lt =
    let len = wide.len n in
    let long : ltb (length (to_be_bytes w n ++ rest)) (byte_len w) ≡ false = le-ltb _ _ (omega (arith, length-append (to_be_bytes w n) rest)) in
    rw (long, take_at (to_be_bytes w n) rest (byte_len w) len, drop_at (to_be_bytes w n) rest (byte_len w) len, wide.again n lt) refl

pub word_takes : (bytes : List ℕ) (x : ℕ × List ℕ) → IsBytes bytes → number_at w32 bytes ≡ Ok x → Takes bytes (to_be_bytes w32 x.0) x.1 × (x.0 < 2 ^ 32)
word_takes = number_takes w32 (2 ^ 32) wide32

pub word_again : (n : ℕ) (rest : List ℕ) → n < 2 ^ 32 → number_at w32 (to_be_bytes w32 n ++ rest) ≡ Ok (n, rest)
word_again = number_again w32 (2 ^ 32) wide32

pub rank_takes : (bytes : List ℕ) (x : ℕ × List ℕ) → IsBytes bytes → number_at w64 bytes ≡ Ok x → Takes bytes (to_be_bytes w64 x.0) x.1 × (x.0 < 2 ^ 64)
rank_takes = number_takes w64 (2 ^ 64) wide64

pub rank_again : (n : ℕ) (rest : List ℕ) → n < 2 ^ 64 → number_at w64 (to_be_bytes w64 n ++ rest) ≡ Ok (n, rest)
rank_again = number_again w64 (2 ^ 64) wide64

-- ---- bytes and hashes

pub byte_takes : (bytes : List ℕ) (x : ℕ × List ℕ) → IsBytes bytes → byte_at bytes ≡ Ok x → Takes bytes (x.0 ∷ []) x.1
byte_takes [] x fits e = absurd cc
byte_takes (b ∷ bytes) x fits e =
    subst (λ (y : ℕ × List ℕ). Takes (b ∷ bytes) (y.0 ∷ []) y.1) (ok_is (b, bytes) x e) (record { parts = refl; rest_fits = λ i. fits (suc i) })

pub hash_takes : (bytes : List ℕ) (x : List ℕ × List ℕ) → IsBytes bytes → hash_at bytes ≡ Ok x → Takes bytes x.0 x.1 × (length x.0 ≡ hash_length)
unfolding hash_at
hash_takes bytes x fits e =
    let g = guard_ok (ltb (length bytes) hash_length) Count (take hash_length bytes, drop hash_length bytes) x e in
    let long : hash_length ≤ length bytes = ltb-false _ _ g.0 in
    let made : Takes bytes (take hash_length bytes) (drop hash_length bytes) = record { parts = sym (take-append-drop hash_length bytes); rest_fits = IsBytes-drop hash_length bytes fits } in
    subst (λ (y : List ℕ × List ℕ). Takes bytes y.0 y.1 × (length y.0 ≡ hash_length)) g.1 (made, omega (arith, length-take hash_length bytes))

pub hash_again : (text rest : List ℕ) → length text ≡ hash_length → hash_at (text ++ rest) ≡ Ok (text, rest)
unfolding hash_at
hash_again text rest len =
    let long : ltb (length (text ++ rest)) hash_length ≡ false = le-ltb _ _ (omega (arith, length-append text rest)) in
    rw (long, take_at text rest hash_length len, drop_at text rest hash_length len) refl
