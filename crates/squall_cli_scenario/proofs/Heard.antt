-- What `hear` and `frame` answer has no bad line.
use Rattle.std.proofs.Common.{◌≡◌, ℕ, zero, suc, List, [], ◌∷◌, ◌++◌, length, true, false, Option, None, Some, refl, arith, nat_lt}
use Rattle.std.specs.Prelude.{codes, slice_index, ◌==◌, ◌/◌, ◌%◌}
use Rattle.hex.specs.Hex.{encode_with, encode_lower, lower_digits}
use Rattle.squall_board.specs.Boards.{BoardValue}
use Rattle.squall_wire.specs.declared.fault.WireFault.{WireFault}
use Rattle.squall_wire.specs.declared.fault.WireFault.TheVariants.{Magic, Version, Kind, TooLong, Short, Count, Range, Order, Spare, NoMemory}
use Rattle.squall_wire.specs.declared.message.Message.TheVariants.{Delta}
use Rattle.squall_wire.specs.FaultText.{text_of_fault}
use Rattle.squall_wire.specs.Limits.{body_limit}
use Rattle.squall_wire.specs.Messages.{Body, lists, rows, body_of, spell_body, spell}
use Rattle.squall_cli_scenario.specs.Frames.{heard_line, heard_lines, fault_line, text_of_heard, frame_text}
use Rattle.squall_cli_words.proofs.LineTexts.{no_lf, with_first, first_is, rest_is, Lacks, lacks_line, lacks_append, lacks_each, lacks_picked, spells_glued, spells_lf, differs_at}

abbrev bad : List ℕ
bad = codes "bad line "

wire_fault_no_lf : (fault : WireFault) → no_lf (text_of_fault fault) ≡ true
wire_fault_no_lf Magic = refl
wire_fault_no_lf Version = refl
wire_fault_no_lf Kind = refl
wire_fault_no_lf TooLong = refl
wire_fault_no_lf Short = refl
wire_fault_no_lf Count = refl
wire_fault_no_lf Range = refl
wire_fault_no_lf Order = refl
wire_fault_no_lf Spare = refl
wire_fault_no_lf NoMemory = refl

heard_lacks : (body : Body) → Lacks bad (heard_line body)
heard_lacks (lists d) = lacks_line bad (codes "heard delta\n") (codes "heard delta" ++ []) (spells_glued (codes "heard delta") (codes "\n") [] [] refl spells_lf) (λ rest. differs_at 0 (codes "heard delta" ++ []) (bad ++ rest) (λ e. omega (arith, e)))
heard_lacks (rows d) = lacks_line bad (codes "heard digest\n") (codes "heard digest" ++ []) (spells_glued (codes "heard digest") (codes "\n") [] [] refl spells_lf) (λ rest. differs_at 0 (codes "heard digest" ++ []) (bad ++ rest) (λ e. omega (arith, e)))

all_lack : (bodies : List Body) → Lacks bad (heard_lines bodies)
all_lack bodies = lacks_each bad heard_line heard_lacks bodies

fault_lacks : (fault : WireFault) → Lacks bad (fault_line fault)
fault_lacks fault =
    lacks_line bad (fault_line fault) (codes "fault " ++ (text_of_fault fault ++ []))
    (spells_glued (codes "fault ") (text_of_fault fault ++ codes "\n") (text_of_fault fault ++ []) [] refl (spells_glued (text_of_fault fault) (codes "\n") [] [] (wire_fault_no_lf fault) spells_lf))
    (λ rest. differs_at 0 (codes "fault " ++ (text_of_fault fault ++ [])) (bad ++ rest) (λ e. omega (arith, e)))

nothing_lacks : Lacks bad (codes "heard nothing\n")
nothing_lacks = lacks_line bad (codes "heard nothing\n") (codes "heard nothing" ++ []) (spells_glued (codes "heard nothing") (codes "\n") [] [] refl spells_lf) (λ rest. differs_at 0 (codes "heard nothing" ++ []) (bad ++ rest) (λ e. omega (arith, e)))

pub text_lacks : (bodies : List Body) (fault : Option WireFault) → Lacks bad (text_of_heard bodies fault)
text_lacks bodies (Some fault) = lacks_append bad (heard_lines bodies) (fault_line fault) (all_lack bodies) (fault_lacks fault)
text_lacks [] None = nothing_lacks
text_lacks (body ∷ bodies) None = all_lack (body ∷ bodies)

pub failed_lacks : Lacks bad (codes "no Failed\n")
failed_lacks = lacks_line bad (codes "no Failed\n") (codes "no Failed" ++ []) (spells_glued (codes "no Failed") (codes "\n") [] [] refl spells_lf) (λ rest. differs_at 0 (codes "no Failed" ++ []) (bad ++ rest) (λ e. omega (arith, e)))

-- ---- frames

digit_no_lf : (t : List ℕ) (i : ℕ) → no_lf t ≡ true → slice_index t i == 10 ≡ false
digit_no_lf [] i h = refl
digit_no_lf (x ∷ t) zero h = first_is x t h
digit_no_lf (x ∷ t) (suc i) h = digit_no_lf t i (rest_is x t h)

hex_no_lf : (t bytes : List ℕ) → no_lf t ≡ true → no_lf (encode_with t bytes) ≡ true
unfolding encode_with
hex_no_lf t [] h = refl
hex_no_lf t (b ∷ bytes) h = with_first (slice_index t (b / 16)) (slice_index t (b % 16) ∷ encode_with t bytes) (digit_no_lf t (b / 16) h) (with_first (slice_index t (b % 16)) (encode_with t bytes) (digit_no_lf t (b % 16) h) (hex_no_lf t bytes h))

pub encoded_no_lf : (bytes : List ℕ) → no_lf (encode_lower bytes) ≡ true
encoded_no_lf bytes = hex_no_lf lower_digits bytes refl

abbrev digits_line : List ℕ → List ℕ
digits_line bytes = codes "frame " ++ (encode_lower bytes ++ codes "\n")

digits_lack : (bytes : List ℕ) → Lacks bad (digits_line bytes)
digits_lack bytes =
    lacks_line bad (digits_line bytes) (codes "frame " ++ (encode_lower bytes ++ []))
    (spells_glued (codes "frame ") (encode_lower bytes ++ codes "\n") (encode_lower bytes ++ []) [] refl (spells_glued (encode_lower bytes) (codes "\n") [] [] (encoded_no_lf bytes) spells_lf))
    (λ rest. differs_at 0 (codes "frame " ++ (encode_lower bytes ++ [])) (bad ++ rest) (λ e. omega (arith, e)))

too_long_lacks : Lacks bad (codes "no TooLong\n")
too_long_lacks = lacks_line bad (codes "no TooLong\n") (codes "no TooLong" ++ []) (spells_glued (codes "no TooLong") (codes "\n") [] [] refl spells_lf) (λ rest. differs_at 0 (codes "no TooLong" ++ []) (bad ++ rest) (λ e. omega (arith, e)))

pub frame_lacks : (b : BoardValue) → Lacks bad (frame_text b)
frame_lacks b = lacks_picked bad (nat_lt body_limit (length (spell_body (body_of (Delta b))))) (codes "no TooLong\n") (digits_line (spell (Delta b))) too_long_lacks (digits_lack (spell (Delta b)))
