-- Laws of reading the first frame: when bytes are too short for one, and what more bytes change.
use Rattle.std.specs.Prelude.{◌≡◌, ◌≢◌, ℕ, zero, suc, ◌+◌, ◌<◌, ◌≤◌, ◌==◌, ◌&&◌, ◌||◌, not, nat_lt, nat_le, Bool, true, false, cond, List, [], ◌∷◌, ◌++◌, length, take, drop, slice_index, Result, Ok, Err, refl}
use Rattle.std.proofs.Common.{sym, ap, subst, ◌∙◌, arith, ⊎_elim}
use Rattle.std.specs.Int.{Width, w32, w64, byte_len, from_be_bytes}
use Rattle.std.proofs.lemmas.Bool.{or_cases, or_parts, or_left, or_right, and_parts, ltb-true, ltb-false, le-leb, leb-true, lt-ltb, le-ltb}
use Rattle.std.proofs.lemmas.Bool.Decides.{nat_tests}
use Rattle.std.proofs.lemmas.List.{length-append, get_or_append_left, take-append-le, drop-append-le, length-drop}
use Rattle.squall_wire.specs.declared.fault.WireFault.{WireFault}
use Rattle.squall_wire.specs.declared.fault.WireFault.TheVariants.{Magic, Version, Kind, TooLong, Short, Count, Range, Order, Spare}
use Rattle.squall_span.specs.Spans.{interval}
use Rattle.squall_plan.specs.declared.range.PlanRange.{PlanRange}
use Rattle.squall_report.specs.Cells.{place_at}
use Rattle.squall_board.specs.declared.opening.Opening.{Opening}
use Rattle.squall_wire.specs.declared.digest.IssueRow.{IssueRow}
use Rattle.squall_wire.specs.declared.digest.DigestRow.{DigestRow}
use Rattle.squall_wire.specs.Limits.{body_limit, hash_length, opening_in_range, span_in_range, span_in_order, is_later, range_in_range, range_in_order, plan_count_in_range, row_in_range, is_later_row}
use Rattle.squall_wire.specs.Messages.{Body}
use Rattle.squall_wire.specs.Reading.{◌>>=◌, Read, number_at, byte_at, hash_at, checked, many_at, list_at, some_at, second_at, opening_at, span_at, CellHead, head_in_range, head_at, cell_at, range_at, plan_at, issue_head_at, issued_at, issue_at, issue_row_at, row_at, lists_at, digest_at, whole, body_at, is_other, body_length, has_head, Frame, frame_at, message_at}

-- ---- the fault Short is the frame's alone

-- bytes that were not found too short for a frame
abbrev pub IsLong : {X : Type 0} → Result X WireFault → Type 0
IsLong (Ok x) = Unit {0}
IsLong (Err e) = e ≢ Short

long_bind : {A B : Type 0} (r : Result A WireFault) (f : A → Result B WireFault) → IsLong r → ((x : A) → IsLong (f x)) → IsLong (r >>= f)
long_bind (Ok x) f r k = k x
long_bind (Err e) f r k = r

long_if : {X : Type 0} (b : Bool) (r s : Result X WireFault) → IsLong r → IsLong s → IsLong (cond b r s)
long_if true r s p q = p
long_if false r s p q = q

count_long : Count ≢ Short
count_long e = cc

range_long : Range ≢ Short
range_long e = cc

order_long : Order ≢ Short
order_long e = cc

spare_long : Spare ≢ Short
spare_long e = cc

long_checked : {X : Type 0} (a b : Bool) (x : X) → IsLong (checked a b x)
long_checked true true x = tt
long_checked true false x = order_long
long_checked false b x = range_long

long_number : (w : Width) (bytes : List ℕ) → IsLong (number_at w bytes)
long_number w bytes = long_if (nat_lt (length bytes) (byte_len w)) _ _ count_long tt

long_byte : (bytes : List ℕ) → IsLong (byte_at bytes)
long_byte [] = count_long
long_byte (b ∷ rest) = tt

long_hash : (bytes : List ℕ) → IsLong (hash_at bytes)
unfolding hash_at
long_hash bytes = long_if (nat_lt (length bytes) hash_length) _ _ count_long tt

-- items of their fields
abbrev opening : ℕ → ℕ → Opening
opening number count = record { number = number; count = count }

abbrev head : ℕ → ℕ → ℕ → ℕ → ℕ → CellHead
head number sub part done count = record { place = place_at number sub part; done = done; count = count }

abbrev range : ℕ → ℕ → ℕ → PlanRange
range from hi part = record { span = interval from hi; part = part }

abbrev issue_row : ℕ → List ℕ → IssueRow
issue_row number hash = record { number = number; hash = hash }

abbrev row : ℕ → ℕ → List ℕ → DigestRow
row number sub hash = record { number = number; sub = sub; hash = hash }

-- a reader of items never answers Short
abbrev IsReader : {S X : Type 0} → (S → List ℕ → Read X) → Type 0
IsReader {S} read = (s : S) (bytes : List ℕ) → IsLong (read s bytes)

long_many : {S X : Type 0} (read : S → List ℕ → Read X) (next : S → X → S) → IsReader read → (n : ℕ) (s : S) (bytes : List ℕ) → IsLong (many_at read next n s bytes)
unfolding many_at
long_many read next h zero s bytes = tt
long_many read next h (suc n) s bytes = long_bind (read s bytes) _ (h s bytes) (λ first. long_bind (many_at read next n (next s first.0) first.1) _ (long_many read next h n (next s first.0) first.1) (λ others. tt))

long_list : {S X : Type 0} (read : S → List ℕ → Read X) (next : S → X → S) → IsReader read → IsReader (list_at read next)
unfolding list_at
long_list read next h s bytes = long_bind (number_at w32 bytes) _ (long_number w32 bytes) (λ n. long_many read next h n.0 s n.1)

long_some : {S X : Type 0} (read : S → List ℕ → Read X) (next : S → X → S) → IsReader read → IsReader (some_at read next)
unfolding some_at
long_some read next h s bytes = long_bind (number_at w32 bytes) _ (long_number w32 bytes) (λ n. long_bind (checked (nat_le 1 n.0) true n) _ (long_checked (nat_le 1 n.0) true n) (λ counted. long_many read next h counted.0 s counted.1))

long_second : {S X : Type 0} (version : ℕ) (read : S → List ℕ → Read X) (next : S → X → S) → IsReader read → IsReader (second_at version read next)
long_second version read next h s bytes = long_if (version == 2) _ _ (long_some read next h s bytes) tt

long_opening : IsReader opening_at
unfolding opening_at
long_opening last bytes = long_bind (number_at w32 bytes) _ (long_number w32 bytes) (λ number. long_bind (number_at w32 number.1) _ (long_number w32 number.1) (λ count. long_checked (opening_in_range (opening number.0 count.0)) (nat_lt last number.0) (opening number.0 count.0, count.1)))

long_span : IsReader span_at
unfolding span_at
long_span floor bytes = long_bind (number_at w64 bytes) _ (long_number w64 bytes) (λ lo. long_bind (number_at w64 lo.1) _ (long_number w64 lo.1) (λ hi. long_checked (span_in_range (interval lo.0 hi.0)) (span_in_order floor (interval lo.0 hi.0)) (interval lo.0 hi.0, hi.1)))

long_head : IsReader head_at
unfolding head_at
long_head last bytes = long_bind (number_at w32 bytes) _ (long_number w32 bytes) (λ number. long_bind (number_at w32 number.1) _ (long_number w32 number.1) (λ sub. long_bind (number_at w32 sub.1) _ (long_number w32 sub.1) (λ part. long_bind (byte_at part.1) _ (long_byte part.1) (λ done. long_bind (number_at w32 done.1) _ (long_number w32 done.1) (λ count. long_checked (head_in_range (head number.0 sub.0 part.0 done.0 count.0)) (is_later last (place_at number.0 sub.0 part.0)) (head number.0 sub.0 part.0 done.0 count.0, count.1))))))

long_cell : IsReader cell_at
unfolding cell_at
long_cell last bytes = long_bind (head_at last bytes) _ (long_head last bytes) (λ head. long_bind (many_at span_at _ head.0.count 0 head.1) _ (long_many span_at _ long_span head.0.count 0 head.1) (λ spans. tt))

long_range : IsReader range_at
unfolding range_at
long_range point bytes = long_bind (number_at w64 bytes) _ (long_number w64 bytes) (λ hi. long_bind (number_at w32 hi.1) _ (long_number w32 hi.1) (λ part. long_checked (range_in_range point (range point.from hi.0 part.0)) (range_in_order point (range point.from hi.0 part.0)) (range point.from hi.0 part.0, part.1)))

long_plan : (bytes : List ℕ) → IsLong (plan_at bytes)
unfolding plan_at
long_plan bytes = long_bind (number_at w32 bytes) _ (long_number w32 bytes) (λ n. long_bind (checked (plan_count_in_range n.0) true n) _ (long_checked (plan_count_in_range n.0) true n) (λ counted. long_many range_at _ long_range counted.0 _ counted.1))

long_issue_head : IsReader issue_head_at
unfolding issue_head_at
long_issue_head last bytes = long_bind (number_at w32 bytes) _ (long_number w32 bytes) (λ number. long_bind (byte_at number.1) _ (long_byte number.1) (λ mark. long_checked (nat_le 1 number.0 && (nat_le 1 mark.0 && nat_le mark.0 2)) (nat_lt last number.0) ((number.0, mark.0), mark.1)))

long_issued : (mark : ℕ) (bytes : List ℕ) → IsLong (issued_at mark bytes)
unfolding issued_at
long_issued mark bytes = long_if (mark == 2) _ _ tt (long_bind (plan_at bytes) _ (long_plan bytes) (λ old. long_bind (plan_at old.1) _ (long_plan old.1) (λ new. tt)))

long_issue : IsReader issue_at
unfolding issue_at
long_issue last bytes = long_bind (issue_head_at last bytes) _ (long_issue_head last bytes) (λ head. long_bind (issued_at head.0.1 head.1) _ (long_issued head.0.1 head.1) (λ issued. tt))

long_issue_row : IsReader issue_row_at
unfolding issue_row_at
long_issue_row last bytes = long_bind (number_at w32 bytes) _ (long_number w32 bytes) (λ number. long_bind (hash_at number.1) _ (long_hash number.1) (λ hash. long_checked (nat_le 1 number.0) (nat_lt last number.0) (issue_row number.0 hash.0, hash.1)))

long_row : IsReader row_at
unfolding row_at
long_row last bytes = long_bind (number_at w32 bytes) _ (long_number w32 bytes) (λ number. long_bind (number_at w32 number.1) _ (long_number w32 number.1) (λ sub. long_bind (hash_at sub.1) _ (long_hash sub.1) (λ hash. long_checked (row_in_range (row number.0 sub.0 hash.0)) (is_later_row last (row number.0 sub.0 hash.0)) (row number.0 sub.0 hash.0, hash.1))))

long_lists : (version : ℕ) (bytes : List ℕ) → IsLong (lists_at version bytes)
unfolding lists_at
long_lists version bytes = long_bind (list_at opening_at _ 0 bytes) _ (long_list opening_at _ long_opening 0 bytes) (λ openings. long_bind (second_at version issue_at _ 0 openings.1) _ (long_second version issue_at _ long_issue 0 openings.1) (λ issues. long_bind (list_at cell_at _ _ issues.1) _ (long_list cell_at _ long_cell _ issues.1) (λ cells. tt)))

long_digest : (version : ℕ) (bytes : List ℕ) → IsLong (digest_at version bytes)
unfolding digest_at
long_digest version bytes = long_bind (list_at opening_at _ 0 bytes) _ (long_list opening_at _ long_opening 0 bytes) (λ openings. long_bind (second_at version issue_row_at _ 0 openings.1) _ (long_second version issue_row_at _ long_issue_row 0 openings.1) (λ issue_rows. long_bind (list_at row_at _ _ issue_rows.1) _ (long_list row_at _ long_row _ issue_rows.1) (λ rows. tt)))

long_whole : {X : Type 0} (read : Read X) → IsLong read → IsLong (whole read)
unfolding whole
long_whole read h = long_bind read _ h (λ d. long_if (length d.1 == 0) _ _ tt spare_long)

-- no body is too short for a frame
pub long_body : (version kind : ℕ) (bytes : List ℕ) → IsLong (body_at version kind bytes)
unfolding body_at
long_body version kind bytes = long_if (kind == 1) _ _
    (long_bind (whole (lists_at version bytes)) _ (long_whole (lists_at version bytes) (long_lists version bytes)) (λ d. tt))
    (long_bind (whole (digest_at version bytes)) _ (long_whole (digest_at version bytes) (long_digest version bytes)) (λ d. tt))

-- ---- frames by their tests

abbrev magic_fails : List ℕ → Bool
magic_fails bytes = is_other bytes 0 83 || is_other bytes 1 81

abbrev version_fails : List ℕ → Bool
version_fails bytes = is_other bytes 2 1 && is_other bytes 2 2

abbrev kind_fails : List ℕ → Bool
kind_fails bytes = is_other bytes 3 1 && is_other bytes 3 2

abbrev length_fails : List ℕ → Bool
length_fails bytes = has_head bytes && nat_lt body_limit (body_length bytes)

abbrev end_fails : List ℕ → Bool
end_fails bytes = not (has_head bytes) || nat_lt (length bytes) (8 + body_length bytes)

abbrev frame_in : List ℕ → Frame
frame_in bytes = record { version = slice_index bytes 2; kind = slice_index bytes 3; body = take (body_length bytes) (drop 8 bytes) }

-- the first test that fails gives the fault
abbrev by_tests : Bool → Bool → Bool → Bool → Bool → Frame → Result Frame WireFault
by_tests magic version kind long end frame = cond magic (Err Magic) (cond version (Err Version) (cond kind (Err Kind) (cond long (Err TooLong) (cond end (Err Short) (Ok frame)))))

frame_by_tests : (bytes : List ℕ) → frame_at bytes ≡ by_tests (magic_fails bytes) (version_fails bytes) (kind_fails bytes) (length_fails bytes) (end_fails bytes) (frame_in bytes)
unfolding frame_at
frame_by_tests bytes = refl

-- ---- few bytes are too short

short_tests : (m v k l s : Bool) (f : Frame) → by_tests m v k l s f ≡ Err Short → (l ≡ false) × (s ≡ true)
short_tests true v k l s f e = absurd cc
short_tests false true k l s f e = absurd cc
short_tests false false true l s f e = absurd cc
short_tests false false false true s f e = absurd cc
short_tests false false false false true f e = (refl, refl)
short_tests false false false false false f e = absurd cc

few_by_tests : (n b : ℕ) → (nat_le 8 n && nat_lt body_limit b) ≡ false → (not (nat_le 8 n) || nat_lt n (8 + b)) ≡ true → n ≤ 1048583
few_by_tests n b p q = grind (arith, nat_tests)

-- what is read of a frame: what its body says, and how many bytes it takes
abbrev sized : Frame → Body → Result (Body × ℕ) WireFault
sized f b = Ok (b, 8 + length f.body)

abbrev framed : Frame → Result (Body × ℕ) WireFault
framed f = body_at f.version f.kind f.body >>= sized f

abbrev read_frame : Result Frame WireFault → Result (Body × ℕ) WireFault
read_frame frame = frame >>= framed

message_by_frame : (bytes : List ℕ) → message_at bytes ≡ read_frame (frame_at bytes)
unfolding message_at
message_by_frame bytes = refl

short_read : (frame : Result Frame WireFault) → read_frame frame ≡ Err Short → frame ≡ Err Short
short_read (Ok f) e = absurd (subst IsLong e (long_bind (body_at f.version f.kind f.body) (sized f) (long_body f.version f.kind f.body) (λ b. tt)) refl)
short_read (Err d) e = cc

short_frame : (bytes : List ℕ) → message_at bytes ≡ Err Short → frame_at bytes ≡ Err Short
short_frame bytes e = short_read (frame_at bytes) (sym (message_by_frame bytes) ∙ e)

-- bytes that are too short for a frame are fewer than those of the longest
pub short_is_few : (bytes : List ℕ) → message_at bytes ≡ Err Short → length bytes ≤ 1048583
short_is_few bytes e =
    let t = short_tests (magic_fails bytes) (version_fails bytes) (kind_fails bytes) (length_fails bytes) (end_fails bytes) (frame_in bytes) (sym (frame_by_tests bytes) ∙ short_frame bytes e) in
    few_by_tests (length bytes) (body_length bytes) t.0 t.1

-- ---- more bytes change nothing but Short

-- the tests of bytes and of more bytes: a test that fails fails again, and then those before it are as they were
record Stay (m v k l s m2 v2 k2 l2 s2 : Bool) (f f2 : Frame) : Type 0 where
  magic : m ≡ true → m2 ≡ true
  version : v ≡ true → (m2 ≡ m) × (v2 ≡ true)
  kind : k ≡ true → (m2 ≡ m) × (v2 ≡ v) × (k2 ≡ true)
  long : l ≡ true → (m2 ≡ m) × (v2 ≡ v) × (k2 ≡ k) × (l2 ≡ true)
  whole : s ≡ false → (m2 ≡ m) × (v2 ≡ v) × (k2 ≡ k) × (l2 ≡ l) × (s2 ≡ false) × (f2 ≡ f)

stays_by_tests : (m v k l s m2 v2 k2 l2 s2 : Bool) (f f2 : Frame) → Stay m v k l s m2 v2 k2 l2 s2 f f2 → by_tests m v k l s f ≢ Err Short → by_tests m2 v2 k2 l2 s2 f2 ≡ by_tests m v k l s f
stays_by_tests true v k l s m2 v2 k2 l2 s2 f f2 t h = rw (t.magic refl) refl
stays_by_tests false true k l s m2 v2 k2 l2 s2 f f2 t h = let p = t.version refl in rw (p.0, p.1) refl
stays_by_tests false false true l s m2 v2 k2 l2 s2 f f2 t h = let p = t.kind refl in rw (p.0, p.1, p.2) refl
stays_by_tests false false false true s m2 v2 k2 l2 s2 f f2 t h = let p = t.long refl in rw (p.0, p.1, p.2, p.3) refl
stays_by_tests false false false false true m2 v2 k2 l2 s2 f f2 t h = absurd (h refl)
stays_by_tests false false false false false m2 v2 k2 l2 s2 f f2 t h = let p = t.whole refl in rw (p.0, p.1, p.2, p.3, p.4, p.5) refl

module _ (r t : List ℕ) where
  other_within : (i b : ℕ) → is_other r i b ≡ true → i < length r
  other_within i b h = ltb-true i (length r) (and_parts _ _ h).0

  other_same : (i b : ℕ) → i < length r → is_other (r ++ t) i b ≡ is_other r i b
  other_same i b lt =
      let long : nat_lt i (length (r ++ t)) ≡ true = lt-ltb _ _ (omega (arith, length-append r t)) in
      let was : nat_lt i (length r) ≡ true = lt-ltb _ _ lt in
      let at : slice_index (r ++ t) i ≡ slice_index r i = get_or_append_left r t 0 i lt in
      rw (long, was, at) refl

  other_stays : (i b : ℕ) → is_other r i b ≡ true → is_other (r ++ t) i b ≡ true
  other_stays i b h = other_same i b (other_within i b h) ∙ h

  either_within : (i b c : ℕ) → (is_other r i b && is_other r i c) ≡ true → i < length r
  either_within i b c h = other_within i b (and_parts _ _ h).0

  magic_same : 1 < length r → magic_fails (r ++ t) ≡ magic_fails r
  magic_same lt = rw (other_same 0 83 (omega arith), other_same 1 81 lt) refl

  version_same : 2 < length r → version_fails (r ++ t) ≡ version_fails r
  version_same lt = rw (other_same 2 1 lt, other_same 2 2 lt) refl

  kind_same : 3 < length r → kind_fails (r ++ t) ≡ kind_fails r
  kind_same lt = rw (other_same 3 1 lt, other_same 3 2 lt) refl

  length_same : 8 ≤ length r → body_length (r ++ t) ≡ body_length r
  length_same le = ap (λ (xs : List ℕ). from_be_bytes w32 xs) (ap (λ (xs : List ℕ). take 4 xs) (drop-append-le 4 r t (omega arith)) ∙ take-append-le 4 (drop 4 r) t (omega (arith, length-drop 4 r)))

  head_same : 8 ≤ length r → has_head (r ++ t) ≡ has_head r
  head_same le = le-leb _ _ (omega (arith, length-append r t)) ∙ sym (le-leb _ _ le)

  long_same : 8 ≤ length r → length_fails (r ++ t) ≡ length_fails r
  long_same le = rw (head_same le, length_same le) refl

  head_within : (b : Bool) → (has_head r && b) ≡ true → 8 ≤ length r
  head_within b h = leb-true 8 (length r) (and_parts _ _ h).0

  magic_stays : magic_fails r ≡ true → magic_fails (r ++ t) ≡ true
  magic_stays h = ⊎_elim (λ a. or_left _ _ (other_stays 0 83 a)) (λ a. or_right _ _ (other_stays 1 81 a)) (or_cases _ _ h)

  stay : Stay (magic_fails r) (version_fails r) (kind_fails r) (length_fails r) (end_fails r) (magic_fails (r ++ t)) (version_fails (r ++ t)) (kind_fails (r ++ t)) (length_fails (r ++ t)) (end_fails (r ++ t)) (frame_in r) (frame_in (r ++ t))
  stay = record {
    magic = magic_stays;
    version = λ h. let lt : 2 < length r = either_within 2 1 2 h in (magic_same (omega arith), version_same lt ∙ h);
    kind = λ h. let lt : 3 < length r = either_within 3 1 2 h in (magic_same (omega arith), version_same (omega arith), kind_same lt ∙ h);
    long = λ h. let le : 8 ≤ length r = head_within (nat_lt body_limit (body_length r)) h in (magic_same (omega arith), version_same (omega arith), kind_same (omega arith), long_same le ∙ h);
    whole = λ h. whole_frame (not_from (has_head r) (or_parts _ _ h).0) (ltb-false _ _ (or_parts _ _ h).1);
  }
    where
      not_from : (b : Bool) → not b ≡ false → b ≡ true
      not_from true e = refl
      not_from false e = absurd cc

      whole_frame : has_head r ≡ true → 8 + body_length r ≤ length r → (magic_fails (r ++ t) ≡ magic_fails r) × (version_fails (r ++ t) ≡ version_fails r) × (kind_fails (r ++ t) ≡ kind_fails r) × (length_fails (r ++ t) ≡ length_fails r) × (end_fails (r ++ t) ≡ false) × (frame_in (r ++ t) ≡ frame_in r)
      whole_frame head fits =
          let le : 8 ≤ length r = leb-true 8 (length r) head in
          let ends : nat_lt (length (r ++ t)) (8 + body_length r) ≡ false = le-ltb _ _ (omega (arith, length-append r t)) in
          let at2 : slice_index (r ++ t) 2 ≡ slice_index r 2 = get_or_append_left r t 0 2 (omega arith) in
          let at3 : slice_index (r ++ t) 3 ≡ slice_index r 3 = get_or_append_left r t 0 3 (omega arith) in
          let body : take (body_length r) (drop 8 (r ++ t)) ≡ take (body_length r) (drop 8 r) = ap (λ (xs : List ℕ). take (body_length r) xs) (drop-append-le 8 r t le) ∙ take-append-le (body_length r) (drop 8 r) t (omega (arith, length-drop 8 r)) in
          (magic_same (omega arith), version_same (omega arith), kind_same (omega arith), long_same le, rw (head_same le, length_same le, head, ends) refl, rw (at2, at3, length_same le, body) refl)

  frame_stays : frame_at r ≢ Err Short → frame_at (r ++ t) ≡ frame_at r
  frame_stays h = frame_by_tests (r ++ t) ∙ stays_by_tests _ _ _ _ _ _ _ _ _ _ _ _ stay (λ e. h (frame_by_tests r ∙ e)) ∙ sym (frame_by_tests r)

-- what the first frame of bytes says, or its fault, stays what it is when more bytes come
pub reading_stays : (r t : List ℕ) → message_at r ≢ Err Short → message_at (r ++ t) ≡ message_at r
reading_stays r t h = message_by_frame (r ++ t) ∙ ap read_frame (frame_stays r t (λ e. h (message_by_frame r ∙ ap read_frame e))) ∙ sym (message_by_frame r)

-- no bytes at all are too short for a frame
pub nothing_is_short : message_at [] ≡ Err Short
unfolding message_at frame_at
nothing_is_short = refl
