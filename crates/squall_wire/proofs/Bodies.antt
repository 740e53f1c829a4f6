-- The body of a board, and the frame of it.
use Rattle.std.specs.Prelude.{◌≡◌, ℕ, ◌<◌, ◌≤◌, length, map, List, [], ◌∷◌, ◌++◌, refl}
use Rattle.std.proofs.Common.{sym, ap, subst, ◌∙◌, append_assoc}
use Rattle.std.proofs.lemmas.List.{length-map}
use Rattle.std.specs.List.{flat_map, AllByRecursion}
use Rattle.squall_join.specs.declared.flat.Flat.{Flat}
use Rattle.squall_report.specs.Issues.{PlanPair}
use Rattle.squall_board.specs.declared.opening.Opening.{Opening}
use Rattle.squall_board.specs.Boards.{BoardValue, IsBoard}
use Rattle.squall_board.specs.Listed.{openings_of, issues_of, cells_of}
use Rattle.squall_board.specs.ListedLaws.{all_map}
use Rattle.squall_wire.specs.declared.message.Message.TheVariants.{Delta}
use Rattle.squall_wire.specs.Limits.{body_limit}
use Rattle.squall_wire.specs.Spelling.{word, spell_list, spell_some, spell_opening, spell_issue, spell_cell}
use Rattle.squall_wire.specs.Messages.{lists_of, spell_lists, spell_frame, spell, version_with, AreLists, IsMessage}
use Rattle.squall_wire.specs.Fits.{IsWordOpening, IsWordIssue, IsWordCell}
use Rattle.squall_wire.specs.FitsLaws.{board_lists_fit}
use Rattle.squall_wire.proofs.Written.{front_long}

-- the three parts of the body of a board
abbrev pub openings_bytes : BoardValue → List ℕ
openings_bytes b = spell_list spell_opening (openings_of b)

abbrev pub issues_bytes : BoardValue → List ℕ
issues_bytes b = spell_some spell_issue (issues_of b)

abbrev pub cells_bytes : BoardValue → List ℕ
cells_bytes b = spell_list spell_cell (cells_of b)

-- ---- what is written by a view of the items

flat_map-map : {X Y : Type 0} (g : X → Y) (f : Y → List ℕ) (xs : List X) → flat_map (λ x. f (g x)) xs ≡ flat_map f (map g xs)
flat_map-map g f [] = refl
flat_map-map g f (x ∷ xs) = ap (λ v. f (g x) ++ v) (flat_map-map g f xs)

spell_some-map : {X Y : Type 0} (g : X → Y) (f : Y → List ℕ) (xs : List X) → spell_some (λ x. f (g x)) xs ≡ spell_some f (map g xs)
spell_some-map g f [] = refl
spell_some-map g f (x ∷ xs) = ap (λ n. word n ++ flat_map (λ x. f (g x)) (x ∷ xs)) (sym (length-map (x ∷ xs) g)) ∙ ap (λ v. word (length (map g (x ∷ xs))) ++ v) (flat_map-map g f (x ∷ xs))

version-map : {X Y : Type 0} (g : X → Y) (xs : List X) → version_with xs ≡ version_with (map g xs)
version-map g [] = refl
version-map g (x ∷ xs) = refl

pub issues_spelled : {X : Type 0} (g : X → ℕ × Flat PlanPair) (b : BoardValue) (es list : List X) → es ≡ list → map g list ≡ issues_of b → spell_some (λ e. spell_issue (g e)) es ≡ issues_bytes b
issues_spelled g b es list same listed = ap (spell_some (λ e. spell_issue (g e))) same ∙ spell_some-map g spell_issue list ∙ ap (spell_some spell_issue) listed

pub version_spelled : {X : Type 0} (g : X → ℕ × Flat PlanPair) (b : BoardValue) (es list : List X) (version : ℕ) → es ≡ list → map g list ≡ issues_of b → version ≡ version_with es → version ≡ version_with (issues_of b)
version_spelled g b es list version same listed is = is ∙ ap version_with same ∙ version-map g list ∙ ap version_with listed

-- ---- the parts, one after another

-- after the openings and the issues
issues_next : (b : BoardValue) (old first issues : List ℕ) → first ≡ old ++ openings_bytes b → issues ≡ issues_bytes b → first ++ issues ≡ old ++ (openings_bytes b ++ issues_bytes b)
issues_next b old first issues p q = ap (λ v. v ++ issues) p ∙ append_assoc old (openings_bytes b) issues ∙ ap (λ v. old ++ (openings_bytes b ++ v)) q

pub issues_long : (b : BoardValue) (old first issues : List ℕ) → first ≡ old ++ openings_bytes b → issues ≡ issues_bytes b → body_limit < length (first ++ issues) → body_limit < length (old ++ spell_lists (lists_of b))
issues_long b old first issues p q long =
    subst (λ v. body_limit < length (old ++ v)) (append_assoc (openings_bytes b) (issues_bytes b) (cells_bytes b))
    (front_long body_limit old (openings_bytes b ++ issues_bytes b) (cells_bytes b) (subst (λ v. body_limit < length v) (issues_next b old first issues p q) long))

pub lists_written : (b : BoardValue) (old first second issues : List ℕ) → first ≡ old ++ openings_bytes b → issues ≡ issues_bytes b → second ≡ first ++ issues → second ++ cells_bytes b ≡ old ++ spell_lists (lists_of b)
lists_written b old first second issues p q is =
    ap (λ v. v ++ cells_bytes b) (is ∙ issues_next b old first issues p q)
    ∙ append_assoc old (openings_bytes b ++ issues_bytes b) (cells_bytes b)
    ∙ ap (λ v. old ++ v) (append_assoc (openings_bytes b) (issues_bytes b) (cells_bytes b))

-- ---- what was learned of the items

pub lists_fit : {X : Type 0} (g : X → ℕ × Flat PlanPair) (b : BoardValue) (os openings : List Opening) (es issues : List X) → IsBoard b → os ≡ openings → openings ≡ openings_of b → AllByRecursion IsWordOpening os → es ≡ issues → map g issues ≡ issues_of b → AllByRecursion (λ e. IsWordIssue (g e)) es → AllByRecursion IsWordCell (cells_of b) → length (spell_lists (lists_of b)) ≤ body_limit → AreLists (lists_of b)
lists_fit g b os openings es issues is p q wo r s we wc few = board_lists_fit b is (subst (AllByRecursion IsWordOpening) (p ∙ q) wo) (subst (AllByRecursion IsWordIssue) s (all_map g IsWordIssue issues (subst (AllByRecursion (λ e. IsWordIssue (g e))) r we))) wc few

-- ---- the frame

pub frame_spelled : (b : BoardValue) (version : ℕ) (body list bytes : List ℕ) → version ≡ version_with (issues_of b) → body ≡ list → list ≡ spell_lists (lists_of b) → bytes ≡ spell_frame version 1 body → bytes ≡ spell (Delta b)
frame_spelled b version body list bytes p q r is = is ∙ ap (λ v. spell_frame v 1 body) p ∙ ap (spell_frame (version_with (issues_of b)) 1) (q ∙ r)

pub board_message : (b : BoardValue) (body list : List ℕ) → IsBoard b → body ≡ list → list ≡ spell_lists (lists_of b) → (length (spell_lists (lists_of b)) ≤ body_limit → AreLists (lists_of b)) → length body ≤ body_limit → IsMessage (Delta b)
board_message b body list is p q fit short =
    let few : length (spell_lists (lists_of b)) ≤ body_limit = subst (λ v. length v ≤ body_limit) (p ∙ q) short in
    record { content = is; body = fit few; short = few }
