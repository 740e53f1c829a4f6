-- The laws of frames: no frame begins another, and each body has one frame (this project's form).
use Rattle.std.proofs.Common.{◌≡◌, ℕ, suc, ◌+◌, ◌<◌, ◌≤◌, Bool, true, false, cond, ltb, List, [], ◌∷◌, ◌++◌, length, take, drop, get_or, Result, Ok, Err, refl, sym, ap, subst, ◌∙◌, arith, inl, inr}
use Rattle.std.specs.Prelude.{◌⊎◌, not, ◌&&◌, ◌||◌, slice_index}
use Rattle.std.proofs.lemmas.Bool.{cases_Bool, ltb-false, le-ltb, and_left, and_right}
use Rattle.std.proofs.lemmas.Bool.Decides.{nat_tests}
use Rattle.std.proofs.lemmas.List.{take_at, take-append-drop, length-append, length-take, length-drop}
use Rattle.std.proofs.lemmas.Nat.{from_be_bytes-to_be_bytes_4}
use Rattle.squall_wire.specs.declared.fault.WireFault.{WireFault}
use Rattle.squall_wire.specs.declared.fault.WireFault.TheVariants.{Magic, Version, Kind, TooLong, Short}
use Rattle.squall_wire.specs.Limits.{body_limit}
use Rattle.squall_wire.specs.Spelling.{word}
use Rattle.squall_wire.specs.Messages.{Body, lists, rows, spell_body, spell_frame, spell_whole, version_with, version_of, kind_of, IsBody}
use Rattle.squall_wire.specs.Reading.{◌>>=◌, is_other, body_length, has_head, Frame, frame_at, body_at, message_at}
use Rattle.squall_wire.specs.FieldLaws.{IsBytes, IsBytes-take, IsBytes-drop, bind_ok, bind_from, ok_is, wide32}
use Rattle.squall_wire.specs.BodyLaws.{IsVersion, body_takes, body_again}

-- ---- the tests of the head

pass : {A : Type 0} (b : Bool) (d : WireFault) (r : Result A WireFault) (y : A) → cond b (Err d) r ≡ Ok y → (b ≡ false) × (r ≡ Ok y)
pass true d r y e = absurd cc
pass false d r y e = (refl, e)

pass_from : {A : Type 0} (b : Bool) (d : WireFault) (r : Result A WireFault) (y : A) → b ≡ false → r ≡ Ok y → cond b (Err d) r ≡ Ok y
pass_from b d r y is e = rw is e

or_none : (x y : Bool) → (x || y) ≡ false → (x ≡ false) × (y ≡ false)
or_none true y e = absurd cc
or_none false y e = (refl, e)

or_false : (x y : Bool) → x ≡ false → y ≡ false → (x || y) ≡ false
or_false x y p q = rw (p, q) refl

same_byte : (bytes : List ℕ) (i b : ℕ) → i < length bytes → is_other bytes i b ≡ false → slice_index bytes i ≡ b
same_byte bytes i b lt h = grind (arith, nat_tests)

not_other : (bytes : List ℕ) (i b : ℕ) → slice_index bytes i ≡ b → is_other bytes i b ≡ false
not_other bytes i b e = grind (arith, nat_tests)

-- the byte is one or two
one_or_two : (bytes : List ℕ) (i : ℕ) → i < length bytes → (is_other bytes i 1 && is_other bytes i 2) ≡ false → (slice_index bytes i ≡ 1) ⊎ (slice_index bytes i ≡ 2)
one_or_two bytes i lt h = elim (cases_Bool (is_other bytes i 1)) [
  | inl one ↦ let two : is_other bytes i 2 ≡ false = rw one at h in inr (same_byte bytes i 2 lt two)
  | inr one ↦ inl (same_byte bytes i 1 lt one)
]

not_another : (bytes : List ℕ) (i b : ℕ) → slice_index bytes i ≡ b → (b ≡ 1) ⊎ (b ≡ 2) → (is_other bytes i 1 && is_other bytes i 2) ≡ false
not_another bytes i b is (inl one) = and_left (is_other bytes i 1) (is_other bytes i 2) (not_other bytes i 1 (is ∙ one))
not_another bytes i b is (inr two) = and_right (is_other bytes i 1) (is_other bytes i 2) (not_other bytes i 2 (is ∙ two))

eight_there : (bytes : List ℕ) → not (has_head bytes) ≡ false → 8 ≤ length bytes
eight_there bytes h = grind (arith, nat_tests)

there_eight : (bytes : List ℕ) → 8 ≤ length bytes → not (has_head bytes) ≡ false
there_eight bytes h = grind (arith, nat_tests)

in_limit : (bytes : List ℕ) (n : ℕ) → 8 ≤ length bytes → (has_head bytes && ltb body_limit n) ≡ false → n ≤ body_limit
in_limit bytes n le h = grind (arith, nat_tests)

-- ---- a frame at the front

-- a frame and what follows it
record IsFramed (bytes : List ℕ) (frame : Frame) : Type 0 where
  version : IsVersion frame.version
  kind : (frame.kind ≡ 1) ⊎ (frame.kind ≡ 2)
  short : length frame.body ≤ body_limit
  body_fits : IsBytes frame.body
  rest : List ℕ
  parts : bytes ≡ spell_frame frame.version frame.kind frame.body ++ rest

eight : (bytes : List ℕ) → 8 ≤ length bytes → bytes ≡ get_or bytes 0 0 ∷ get_or bytes 1 0 ∷ get_or bytes 2 0 ∷ get_or bytes 3 0 ∷ (take 4 (drop 4 bytes) ++ drop 8 bytes)
eight [] le = absurd (omega arith)
eight (a ∷ []) le = absurd (omega arith)
eight (a ∷ b ∷ []) le = absurd (omega arith)
eight (a ∷ b ∷ c ∷ []) le = absurd (omega arith)
eight (a ∷ b ∷ c ∷ d ∷ []) le = absurd (omega arith)
eight (a ∷ b ∷ c ∷ d ∷ e ∷ []) le = absurd (omega arith)
eight (a ∷ b ∷ c ∷ d ∷ e ∷ f ∷ []) le = absurd (omega arith)
eight (a ∷ b ∷ c ∷ d ∷ e ∷ f ∷ g ∷ []) le = absurd (omega arith)
eight (a ∷ b ∷ c ∷ d ∷ e ∷ f ∷ g ∷ h ∷ tail) le = refl

-- the bytes of a whole frame
spelled_parts : (bytes : List ℕ) → IsBytes bytes → 8 + body_length bytes ≤ length bytes → slice_index bytes 0 ≡ 83 → slice_index bytes 1 ≡ 81
    → bytes ≡ spell_frame (slice_index bytes 2) (slice_index bytes 3) (take (body_length bytes) (drop 8 bytes)) ++ drop (body_length bytes) (drop 8 bytes)
spelled_parts bytes fits room b0 b1 =
    let len : ℕ = body_length bytes in
    let rest : List ℕ = drop 8 bytes in
    let body : List ℕ = take len rest in
    let body-len : length body ≡ len = omega (arith, length-take len rest, length-drop 8 bytes) in
    let four : length (take 4 (drop 4 bytes)) ≡ 4 = omega (arith, length-take 4 (drop 4 bytes), length-drop 4 bytes) in
    let spelled : word (length body) ≡ take 4 (drop 4 bytes) = ap word body-len ∙ wide32.back (take 4 (drop 4 bytes)) four (IsBytes-take 4 (drop 4 bytes) (IsBytes-drop 4 bytes fits)) in
    let tail : rest ≡ body ++ drop len rest = sym (take-append-drop len rest) in
    eight bytes (omega arith) ∙ rw (b0, b1) (ap (λ (t : List ℕ). 83 ∷ 81 ∷ get_or bytes 2 0 ∷ get_or bytes 3 0 ∷ t) (ap (λ (t : List ℕ). t ++ rest) (sym spelled) ∙ ap (λ (t : List ℕ). word (length body) ++ t) tail))

frame_takes : (bytes : List ℕ) (frame : Frame) → IsBytes bytes → frame_at bytes ≡ Ok frame → IsFramed bytes frame
unfolding frame_at
frame_takes bytes frame fits e =
    let len : ℕ = body_length bytes in
    let g0 = pass (is_other bytes 0 83 || is_other bytes 1 81) Magic _ frame e in
    let g1 = pass (is_other bytes 2 1 && is_other bytes 2 2) Version _ frame g0.1 in
    let g2 = pass (is_other bytes 3 1 && is_other bytes 3 2) Kind _ frame g1.1 in
    let g3 = pass (has_head bytes && ltb body_limit len) TooLong _ frame g2.1 in
    let g4 = pass (not (has_head bytes) || ltb (length bytes) (8 + len)) Short _ frame g3.1 in
    let last = or_none (not (has_head bytes)) (ltb (length bytes) (8 + len)) g4.0 in
    let long : 8 ≤ length bytes = eight_there bytes last.0 in
    let room : 8 + len ≤ length bytes = ltb-false _ _ last.1 in
    let first = or_none (is_other bytes 0 83) (is_other bytes 1 81) g0.0 in
    let limit : len ≤ body_limit = in_limit bytes len long g3.0 in
    let body : List ℕ = take len (drop 8 bytes) in
    let made : Frame = record { version = slice_index bytes 2; kind = slice_index bytes 3; body = body } in
    let framed : IsFramed bytes made = record {
      version = one_or_two bytes 2 (omega arith) g1.0;
      kind = one_or_two bytes 3 (omega arith) g2.0;
      short = omega (arith, length-take len (drop 8 bytes));
      body_fits = IsBytes-take len (drop 8 bytes) (IsBytes-drop 8 bytes fits);
      rest = drop len (drop 8 bytes);
      parts = spelled_parts bytes fits room (same_byte bytes 0 83 (omega arith) first.0) (same_byte bytes 1 81 (omega arith) first.1);
    } in
    subst (IsFramed bytes) (ok_is made frame g4.1) framed

frame_again : (version kind : ℕ) (body rest : List ℕ) → IsVersion version → (kind ≡ 1) ⊎ (kind ≡ 2) → length body ≤ body_limit → frame_at (spell_frame version kind body ++ rest) ≡ Ok (record { version = version; kind = kind; body = body })
unfolding frame_at
frame_again version kind body rest versions kinds short =
    let bytes : List ℕ = spell_frame version kind body ++ rest in
    let frame : Frame = record { version = version; kind = kind; body = body } in
    let len-is : body_length bytes ≡ length body = from_be_bytes-to_be_bytes_4 (length body) (omega arith) in
    let long : length bytes ≡ 8 + length (body ++ rest) = lengths (length (body ++ rest)) in
    let room : length (body ++ rest) ≡ length body + length rest = length-append body rest in
    let last : framed version kind (take (body_length bytes) (body ++ rest)) ≡ Ok frame = rw (len-is, take_at body rest (length body) refl) refl in
    pass_from (is_other bytes 0 83 || is_other bytes 1 81) Magic _ frame (or_false (is_other bytes 0 83) (is_other bytes 1 81) (not_other bytes 0 83 refl) (not_other bytes 1 81 refl))
    (pass_from (is_other bytes 2 1 && is_other bytes 2 2) Version _ frame (not_another bytes 2 version refl versions)
    (pass_from (is_other bytes 3 1 && is_other bytes 3 2) Kind _ frame (not_another bytes 3 kind refl kinds)
    (pass_from (has_head bytes && ltb body_limit (body_length bytes)) TooLong _ frame (and_right (has_head bytes) (ltb body_limit (body_length bytes)) (le-ltb _ _ (omega arith)))
    (pass_from (not (has_head bytes) || ltb (length bytes) (8 + body_length bytes)) Short _ frame (or_false (not (has_head bytes)) (ltb (length bytes) (8 + body_length bytes)) (there_eight bytes (omega arith)) (le-ltb _ _ (omega arith)))
    last))))
  where
    framed : ℕ → ℕ → List ℕ → Result Frame WireFault
    framed v k b = Ok (record { version = v; kind = k; body = b })

    lengths : (n : ℕ) → suc (suc (suc (suc (suc (suc (suc (suc n))))))) ≡ 8 + n
    lengths n = omega arith

-- ---- messages

version_is : {X : Type 0} (xs : List X) → IsVersion (version_with xs)
version_is [] = inl refl
version_is (x ∷ xs) = inr refl

version_is_one : (b : Body) → IsVersion (version_of b)
version_is_one (lists d) = version_is d.issues
version_is_one (rows d) = version_is d.issue_rows

kind_is_one : (b : Body) → (kind_of b ≡ 1) ⊎ (kind_of b ≡ 2)
kind_is_one (lists d) = inl refl
kind_is_one (rows d) = inr refl

abbrev used : List ℕ → Body → Result (Body × ℕ) WireFault
used body b = Ok (b, 8 + length body)

abbrev body_step : Frame → Result (Body × ℕ) WireFault
body_step frame = body_at frame.version frame.kind frame.body >>= used frame.body

pub frame_length : (version kind : ℕ) (body : List ℕ) → length (spell_frame version kind body) ≡ 8 + length body
frame_length version kind body = omega arith

-- what is read is spelled so
pub message_takes : (bytes : List ℕ) (x : Body × ℕ) → IsBytes bytes → message_at bytes ≡ Ok x → IsBody x.0 × (length (spell_body x.0) ≤ body_limit) × (x.1 ≤ length bytes) × (take x.1 bytes ≡ spell_whole x.0)
unfolding message_at
message_takes bytes x fits e =
    let a = bind_ok (frame_at bytes) body_step x e in
    let frame : Frame = a.0 in
    let b = bind_ok (body_at frame.version frame.kind frame.body) (used frame.body) x a.2 in
    let f = frame_takes bytes frame fits a.1 in
    let t = body_takes frame.version frame.kind frame.body b.0 f.version f.kind f.body_fits b.1 in
    let n : ℕ = 8 + length frame.body in
    let spelled : spell_frame frame.version frame.kind frame.body ≡ spell_whole b.0 =
    ap (λ (v : ℕ). spell_frame v frame.kind frame.body) t.versioned ∙ ap (λ (k : ℕ). spell_frame (version_of b.0) k frame.body) t.of_kind ∙ ap (spell_frame (version_of b.0) (kind_of b.0)) t.text in
    let n-is : length (spell_frame frame.version frame.kind frame.body) ≡ n = frame_length frame.version frame.kind frame.body in
    let front : take n bytes ≡ spell_whole b.0 = ap (take n) f.parts ∙ take_at (spell_frame frame.version frame.kind frame.body) f.rest n n-is ∙ spelled in
    let within : n ≤ length bytes = omega (arith, ap length f.parts, length-append (spell_frame frame.version frame.kind frame.body) f.rest) in
    let short : length (spell_body b.0) ≤ body_limit = subst (λ (text : List ℕ). length text ≤ body_limit) t.text f.short in
    subst (λ (y : Body × ℕ). IsBody y.0 × (length (spell_body y.0) ≤ body_limit) × (y.1 ≤ length bytes) × (take y.1 bytes ≡ spell_whole y.0)) (ok_is (b.0, n) x b.2) (t.is_body, short, within, front)

-- what is spelled so is read, whatever follows
pub message_again : (b : Body) (rest : List ℕ) → IsBody b → length (spell_body b) ≤ body_limit → message_at (spell_whole b ++ rest) ≡ Ok (b, length (spell_whole b))
unfolding message_at
message_again b rest is short =
    let body : List ℕ = spell_body b in
    let frame : Frame = record { version = version_of b; kind = kind_of b; body = body } in
    let read : Result (Body × ℕ) WireFault = Ok (b, length (spell_whole b)) in
    bind_from (frame_at (spell_whole b ++ rest)) body_step frame read (frame_again (version_of b) (kind_of b) body rest (version_is_one b) (kind_is_one b) short)
    (bind_from (body_at (version_of b) (kind_of b) body) (used body) b read (body_again b is) (ap (λ (n : ℕ). used_so n) (sym (frame_length (version_of b) (kind_of b) body))))
  where
    used_so : ℕ → Result (Body × ℕ) WireFault
    used_so n = Ok (b, n)
