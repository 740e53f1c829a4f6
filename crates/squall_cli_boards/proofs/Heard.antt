-- What comes of a file, by its first frame.
use Rattle.std.proofs.Common.{◌≡◌, ◌≢◌, ℕ, zero, suc, ◌+◌, ◌-◌, ◌<◌, ◌≤◌, true, ◌==◌, List, [], ◌∷◌, length, drop, Result, Ok, Err, refl, sym, ap, subst, ◌∙◌, arith}
use Rattle.std.proofs.lemmas.Bool.{false≢true, ne_eqb}
use Rattle.std.proofs.lemmas.List.{nil_from_length, length-drop}
use Rattle.std.specs.Prelude.{None}
use Rattle.squall_board.specs.Boards.{BoardValue}
use Rattle.squall_wire.specs.declared.fault.WireFault.{WireFault}
use Rattle.squall_wire.specs.declared.fault.WireFault.TheVariants.{Magic, Version, Kind, TooLong, Short, Count, Range, Order, Spare, NoMemory}
use Rattle.squall_wire.specs.Messages.{Body}
use Rattle.squall_wire.specs.FieldLaws.{bind_ok, ok_is}
use Rattle.squall_wire.specs.Reading.{◌>>=◌, Frame, frame_at, body_at, message_at}
use Rattle.squall_wire.specs.ReadingLaws.{nothing_is_short}
use Rattle.squall_wire.specs.Heard.{HeardValue, heard_with, heard_first, heard_next, frames_in, heard_of}
use Rattle.squall_cli_boards.specs.Files.{bodies_in, fault_in, fault_after, joined_with, joined_file}
use Rattle.squall_cli_boards.specs.Joined.{IsFirstOf}

abbrev used : List ℕ → Body → Result (Body × ℕ) WireFault
used body b = Ok (b, 8 + length body)

abbrev body_step : Frame → Result (Body × ℕ) WireFault
body_step frame = body_at frame.version frame.kind frame.body >>= used frame.body

-- a frame has more than no byte
some_used : (bytes : List ℕ) (x : Body × ℕ) → message_at bytes ≡ Ok x → 0 < x.1
unfolding message_at
some_used bytes x e =
    let a = bind_ok (frame_at bytes) body_step x e in
    let frame : Frame = a.0 in
    let b = bind_ok (body_at frame.version frame.kind frame.body) (used frame.body) x a.2 in
    omega (arith, ap (λ (y : Body × ℕ). y.1) (ok_is (b.0, 8 + length frame.body) x b.2))

module _ (s : List ℕ) (f g : List ℕ → HeardValue) where
  next_alike : (r : Result (Body × ℕ) WireFault) → ((x : Body × ℕ) → r ≡ Ok x → f (drop x.1 s) ≡ g (drop x.1 s)) → heard_next r s f ≡ heard_next r s g
  next_alike (Ok x) h = ap (heard_first x.0) (h x refl)
  next_alike (Err Magic) h = refl
  next_alike (Err Version) h = refl
  next_alike (Err Kind) h = refl
  next_alike (Err TooLong) h = refl
  next_alike (Err Short) h = refl
  next_alike (Err Count) h = refl
  next_alike (Err Range) h = refl
  next_alike (Err Order) h = refl
  next_alike (Err Spare) h = refl
  next_alike (Err NoMemory) h = refl

nothing_left : (n : ℕ) (s : List ℕ) → length s ≤ 0 → frames_in n s ≡ heard_with [] None s
unfolding frames_in
nothing_left zero s l = refl
nothing_left (suc n) s l = ap (λ r. heard_next r s (frames_in n)) (ap message_at (nil_from_length s (omega (arith, l))) ∙ nothing_is_short)

-- any number that is no less than that of the bytes is enough
frames_alike : (n m : ℕ) (s : List ℕ) → length s ≤ n → length s ≤ m → frames_in n s ≡ frames_in m s
unfolding frames_in
frames_alike zero m s l k = sym (nothing_left m s l)
frames_alike (suc n) zero s l k = nothing_left (suc n) s k
frames_alike (suc n) (suc m) s l k = next_alike s (frames_in n) (frames_in m) (message_at s) (λ x e.
    let some = some_used s x e in
    let left : length (drop x.1 s) ≡ length s - x.1 = length-drop x.1 s in
    frames_alike n m (drop x.1 s) (omega (arith, l, some, left)) (omega (arith, k, some, left)))

-- after the first frame
heard_after : (bytes : List ℕ) (x : Body × ℕ) → message_at bytes ≡ Ok x → heard_of bytes ≡ heard_first x.0 (heard_of (drop x.1 bytes))
unfolding frames_in
heard_after [] x e = let n = nothing_is_short in absurd cc
heard_after (y ∷ ys) x e =
    let some = some_used (y ∷ ys) x e in
    let left : length (drop x.1 (y ∷ ys)) ≡ suc (length ys) - x.1 = length-drop x.1 (y ∷ ys) in
    ap (λ r. heard_next r (y ∷ ys) (frames_in (length ys))) e
    ∙ ap (heard_first x.0) (frames_alike (length ys) (length (drop x.1 (y ∷ ys))) (drop x.1 (y ∷ ys)) (omega (arith, some, left)) (omega arith))

joined_heard : BoardValue → HeardValue → Result BoardValue WireFault
joined_heard board h = joined_with board h.bodies (fault_after h.fault h.rest)

pub first_joined : (bytes others : List ℕ) (x : Body × ℕ) → message_at bytes ≡ Ok x → x.1 ≤ length bytes → others ≡ drop x.1 bytes → IsFirstOf bytes x.0 others
unfolding joined_heard
first_joined bytes others x e within is =
    let some = some_used bytes x e in
    let left = length-drop x.1 bytes in record {
      fewer = omega (arith, ap length is, left, some, within);
      joined = λ board. ap (joined_heard board) (heard_after bytes x e) ∙ ap (λ s. joined_with board (x.0 ∷ bodies_in s) (fault_in s)) (sym is);
    }

next_fault : (board : BoardValue) (fault : WireFault) (y : ℕ) (ys : List ℕ) (then : List ℕ → HeardValue) → joined_heard board (heard_next (Err fault) (y ∷ ys) then) ≡ Err fault
unfolding joined_heard
next_fault board Magic y ys then = refl
next_fault board Version y ys then = refl
next_fault board Kind y ys then = refl
next_fault board TooLong y ys then = refl
next_fault board Short y ys then = refl
next_fault board Count y ys then = refl
next_fault board Range y ys then = refl
next_fault board Order y ys then = refl
next_fault board Spare y ys then = refl
next_fault board NoMemory y ys then = refl

pub fault_joined : (board : BoardValue) (bytes : List ℕ) (fault told : WireFault) → bytes ≢ [] → message_at bytes ≡ Err fault → told ≡ fault → joined_file board bytes ≡ Err told
unfolding joined_heard frames_in
fault_joined board [] fault told some e is = absurd (some refl)
fault_joined board (y ∷ ys) fault told some e is =
    subst (λ f. joined_file board (y ∷ ys) ≡ Err f) (sym is)
    (ap (λ r. joined_heard board (heard_next r (y ∷ ys) (frames_in (length ys)))) e ∙ next_fault board fault y ys (frames_in (length ys)))

pub nothing_joined : (board : BoardValue) (bytes : List ℕ) → true ≡ (length bytes == 0) → joined_file board bytes ≡ Ok board
unfolding frames_in
nothing_joined board [] is = refl
nothing_joined board (y ∷ ys) is = absurd (false≢true (sym (ne_eqb (length (y ∷ ys)) 0 (λ e. omega (arith, e))) ∙ sym is))
