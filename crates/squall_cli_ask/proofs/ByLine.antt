-- Lines of keys are answered one by one.
use Rattle.std.proofs.Common.{◌≡◌, ℕ, zero, suc, List, [], ◌∷◌, ◌++◌, take, Option, Result, Ok, Err, refl, ap, sym, subst}
use Rattle.std.specs.Prelude.{IfOk}
use Rattle.std.specs.declared.alloc.AllocError.{AllocError}
use Rattle.squall_cli_device.specs.Counts.{one_more}
use Rattle.squall_cli_lines.specs.Words.{without_cr}
use Rattle.squall_cli_lines.specs.Script.{Script, IsByLine, PlaysOnly, TakesLine, after, last_word}
use Rattle.squall_cli_lines.specs.declared.Flow.{Flow}
use Rattle.squall_cli_lines.specs.declared.Flow.TheVariants.{On, End}
use Rattle.squall_cli_lines.proofs.Functions.{takes-on, takes-end}
use Rattle.squall_cli_words.specs.declared.reason.Reason.{Reason}
use Rattle.squall_cli_ask.specs.Keys.{keys_script, key_before, key_on_line, text_of_route, bad_text}
use Rattle.squall_cli_ask.specs.Answered.{IsKeyReply}

abbrev no_answers : List (List ℕ)
no_answers = []

none_taken : (n : ℕ) → take n no_answers ≡ []
none_taken zero = refl
none_taken (suc n) = refl

one_by_one : (to_part : ℕ → ℕ) (number n : ℕ) (key : Result (Option ℕ) Reason) (few all : Script) → few.answers ≡ take n all.answers
    → (key_before to_part number key few).answers ≡ take (suc n) (key_before to_part number key all).answers
one_by_one to_part number n (Ok key) few all e = ap (λ w. text_of_route to_part key ∷ w) e
one_by_one to_part number n (Err reason) few all e = ap (λ w. bad_text number reason ∷ w) (sym (none_taken n))

pub by_line : (to_part : ℕ → ℕ) (before : ℕ) → IsByLine (keys_script to_part before)
by_line to_part before zero lines = refl
by_line to_part before (suc n) [] = refl
by_line to_part before (suc n) (line ∷ lines) =
    one_by_one to_part (one_more before) n (key_on_line (without_cr line)) _ _ (by_line to_part (one_more before) n lines)

-- ---- one line taken

reply_on : (to_part : ℕ → ℕ) (number : ℕ) (text : List ℕ) (key : Result (Option ℕ) Reason) (rest : Script) → IsKeyReply On text to_part number key
    → key_before to_part number key rest ≡ after (text ∷ []) rest
reply_on to_part number text (Ok key) rest h = ap (λ w. after (w ∷ []) rest) (sym h)
reply_on to_part number text (Err reason) rest h = absurd h

reply_end : (to_part : ℕ → ℕ) (number : ℕ) (text : List ℕ) (key : Result (Option ℕ) Reason) (rest : Script) → IsKeyReply End text to_part number key
    → key_before to_part number key rest ≡ last_word text
reply_end to_part number text (Ok key) rest h = absurd h
reply_end to_part number text (Err reason) rest h = ap last_word (sym h)

answered : (flow : Flow) (text line : List ℕ) (to_part : ℕ → ℕ) (before : ℕ) → IsKeyReply flow text to_part (one_more before) (key_on_line (without_cr line))
    → TakesLine flow text (PlaysOnly (keys_script to_part before)) (PlaysOnly (keys_script to_part (one_more before))) line
answered On text line to_part before h = takes-on text (keys_script to_part before) (keys_script to_part (one_more before)) line
    (λ lines. reply_on to_part (one_more before) text (key_on_line (without_cr line)) (keys_script to_part (one_more before) lines) h)
answered End text line to_part before h = takes-end text (keys_script to_part before) (keys_script to_part (one_more before)) line
    (λ lines. reply_end to_part (one_more before) text (key_on_line (without_cr line)) (keys_script to_part (one_more before) lines) h)

-- a line that was answered is one that the machine takes
pub taken_line : (r : Result Flow AllocError) (old new line : List ℕ) (to_part : ℕ → ℕ) (before number : ℕ) (key : Result (Option ℕ) Reason)
    → number ≡ one_more before → key ≡ key_on_line (without_cr line)
    → IfOk r (λ flow. (text : List ℕ) × (new ≡ old ++ text) × IsKeyReply flow text to_part number key)
    → IfOk r (λ flow. (text : List ℕ) × (new ≡ old ++ text) × TakesLine flow text (PlaysOnly (keys_script to_part before)) (PlaysOnly (keys_script to_part number)) line)
taken_line (Ok flow) old new line to_part before number key n k h = (
  h.0,
  h.1,
  subst (λ m. TakesLine flow h.0 (PlaysOnly (keys_script to_part before)) (PlaysOnly (keys_script to_part m)) line) (sym n)
      (answered flow h.0 line to_part before (subst (λ m. IsKeyReply flow h.0 to_part m (key_on_line (without_cr line))) n
      (subst (λ w. IsKeyReply flow h.0 to_part number w) k h.2))),
)
taken_line (Err e) old new line to_part before number key n k h = tt
