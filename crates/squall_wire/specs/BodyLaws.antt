-- The laws of whole bodies (this project's form).
use Rattle.std.proofs.Common.{◌≡◌, ℕ, ◌==◌, Bool, true, false, cond, List, [], ◌++◌, length, Result, Ok, Err, refl, sym, ap, subst, ◌∙◌, append_assoc, inl, inr}
use Rattle.std.specs.Prelude.{◌⊎◌}
use Rattle.std.proofs.lemmas.Bool.{eqb-true}
use Rattle.std.proofs.lemmas.List.{append-nil, nil_from_length}
use Rattle.squall_board.specs.declared.opening.Opening.{Opening}
use Rattle.squall_wire.specs.declared.fault.WireFault.{WireFault}
use Rattle.squall_wire.specs.declared.fault.WireFault.TheVariants.{Spare}
use Rattle.squall_wire.specs.DigestValue.{DigestValue, digest_with, IsDigest}
use Rattle.squall_wire.specs.Limits.{no_place, AreListed, FitsOpening, after_opening, FitsIssue, after_issue, FitsCell, after_cell, FitsIssueRow, after_issue_row, FitsRow, after_row}
use Rattle.squall_wire.specs.Spelling.{spell_list, spell_some, spell_opening, spell_issue, spell_cell, spell_issue_row, spell_row}
use Rattle.squall_wire.specs.Messages.{BoardLists, lists_with, Body, lists, rows, spell_lists, spell_digest, spell_body, version_with, version_of, kind_of, AreLists, IsBody}
use Rattle.squall_wire.specs.Reading.{◌>>=◌, Read, list_at, second_at, opening_at, issue_at, cell_at, issue_row_at, row_at, lists_at, digest_at, whole, body_at}
use Rattle.squall_wire.specs.FieldLaws.{IsBytes, Takes, Takes-then, bind_ok, bind_from, ok_is}
use Rattle.squall_wire.specs.ListLaws.{IsItem, list_item, second_takes, second_again}
use Rattle.squall_wire.specs.ItemLaws.{opening_item, cell_item, issue_row_item, row_item}
use Rattle.squall_wire.specs.IssueItemLaws.{issue_item}

abbrev pub IsVersion : ℕ → Type 0
IsVersion version = (version ≡ 1) ⊎ (version ≡ 2)

-- ---- a body has three lists: openings, a list of the second version, and another list

module _ {SB B SC C D : Type 0} (read_b : SB → List ℕ → Read B) (next_b : SB → B → SB) (spell_b : B → List ℕ) (FitsB : SB → B → Type 0) (b0 : SB) (read_c : SC → List ℕ → Read C) (next_c : SC → C → SC) (spell_c : C → List ℕ) (FitsC : SC → C → Type 0) (c0 : SC) (make : List Opening → List B → List C → D) where
  abbrev last_step : List Opening → List B → List C × List ℕ → Read D
  last_step os bs cs = Ok (make os bs cs.0, cs.1)

  abbrev second_step : List Opening → List B × List ℕ → Read D
  second_step os bs = list_at read_c next_c c0 bs.1 >>= last_step os bs.0

  abbrev first_step : ℕ → List Opening × List ℕ → Read D
  first_step version os = second_at version read_b next_b b0 os.1 >>= second_step os.0

  abbrev three_at : ℕ → List ℕ → Read D
  three_at version bytes = list_at opening_at after_opening 0 bytes >>= first_step version

  abbrev spell_three : List Opening → List B → List C → List ℕ
  spell_three os bs cs = spell_list spell_opening os ++ (spell_some spell_b bs ++ spell_list spell_c cs)

  record AreThree (os : List Opening) (bs : List B) (cs : List C) : Type 0 where
    openings : AreListed FitsOpening after_opening 0 os
    seconds : AreListed FitsB next_b b0 bs
    lasts : AreListed FitsC next_c c0 cs

  -- three lists were read
  record HasThree (version : ℕ) (bytes : List ℕ) (d : D) (rest : List ℕ) : Type 0 where
    os : List Opening
    bs : List B
    cs : List C
    is : make os bs cs ≡ d
    took : Takes bytes (spell_three os bs cs) rest
    fit : AreThree os bs cs
    versioned : version ≡ version_with bs

  three_takes : IsItem read_b spell_b FitsB → IsItem read_c spell_c FitsC → (version : ℕ) (bytes : List ℕ) (x : D × List ℕ) → IsVersion version → IsBytes bytes → three_at version bytes ≡ Ok x → HasThree version bytes x.0 x.1
  three_takes item_b item_c version bytes x is_version fits e =
      let a = bind_ok (list_at opening_at after_opening 0 bytes) (first_step version) x e in
      let b = bind_ok (second_at version read_b next_b b0 a.0.1) (second_step a.0.0) x a.2 in
      let c = bind_ok (list_at read_c next_c c0 b.0.1) (last_step a.0.0 b.0.0) x b.2 in
      let t0 = (list_item opening_at after_opening spell_opening FitsOpening opening_item).takes 0 bytes a.0 fits a.1 in
      let t1 = second_takes read_b next_b spell_b FitsB item_b version b0 a.0.1 b.0 is_version t0.0.rest_fits b.1 in
      let t2 = (list_item read_c next_c spell_c FitsC item_c).takes c0 b.0.1 c.0 t1.0.rest_fits c.1 in
      let e12 = Takes-then a.0.1 (spell_some spell_b b.0.0) b.0.1 (spell_list spell_c c.0.0) c.0.1 t1.0 t2.0 in
      let e02 = Takes-then bytes (spell_list spell_opening a.0.0) a.0.1 (spell_some spell_b b.0.0 ++ spell_list spell_c c.0.0) c.0.1 t0.0 e12 in
      let made : D × List ℕ = (make a.0.0 b.0.0 c.0.0, c.0.1) in
      subst (λ (y : D × List ℕ). HasThree version bytes y.0 y.1) (ok_is made x c.2)
      (record { os = a.0.0; bs = b.0.0; cs = c.0.0; is = refl; took = e02; fit = record { openings = t0.1; seconds = t1.1; lasts = t2.1 }; versioned = t1.2 })

  three_again : IsItem read_b spell_b FitsB → IsItem read_c spell_c FitsC → (os : List Opening) (bs : List B) (cs : List C) (rest : List ℕ) → AreThree os bs cs → three_at (version_with bs) (spell_three os bs cs ++ rest) ≡ Ok (make os bs cs, rest)
  three_again item_b item_c os bs cs rest fit =
      let r2 : List ℕ = spell_list spell_c cs ++ rest in
      let r1 : List ℕ = spell_some spell_b bs ++ r2 in
      let made : D × List ℕ = (make os bs cs, rest) in
      let regrouped : spell_three os bs cs ++ rest ≡ spell_list spell_opening os ++ r1 =
      append_assoc (spell_list spell_opening os) (spell_some spell_b bs ++ spell_list spell_c cs) rest ∙ ap (λ (t : List ℕ). spell_list spell_opening os ++ t) (append_assoc (spell_some spell_b bs) (spell_list spell_c cs) rest) in
      ap (three_at (version_with bs)) regrouped
      ∙ bind_from (list_at opening_at after_opening 0 (spell_list spell_opening os ++ r1)) (first_step (version_with bs)) (os, r1) (Ok made) ((list_item opening_at after_opening spell_opening FitsOpening opening_item).again 0 os r1 fit.openings)
      (bind_from (second_at (version_with bs) read_b next_b b0 r1) (second_step os) (bs, r2) (Ok made) (second_again read_b next_b spell_b FitsB item_b b0 bs r2 fit.seconds)
      (bind_from (list_at read_c next_c c0 r2) (last_step os bs) (cs, rest) (Ok made) ((list_item read_c next_c spell_c FitsC item_c).again c0 cs rest fit.lasts) refl))

-- ---- the lists of a board, and digests

pub lists_takes : (version : ℕ) (bytes : List ℕ) (x : BoardLists × List ℕ) → IsVersion version → IsBytes bytes → lists_at version bytes ≡ Ok x → Takes bytes (spell_lists x.0) x.1 × AreLists x.0 × (version ≡ version_with x.0.issues)
unfolding lists_at
lists_takes version bytes x is_version fits e =
    let t = three_takes issue_at after_issue spell_issue FitsIssue 0 cell_at after_cell spell_cell FitsCell no_place lists_with issue_item cell_item version bytes x is_version fits e in
    subst (λ (d : BoardLists). Takes bytes (spell_lists d) x.1 × AreLists d × (version ≡ version_with d.issues)) t.is
    (t.took, record { openings = t.fit.openings; issues = t.fit.seconds; cells = t.fit.lasts }, t.versioned)

pub lists_again : (d : BoardLists) (rest : List ℕ) → AreLists d → lists_at (version_with d.issues) (spell_lists d ++ rest) ≡ Ok (d, rest)
unfolding lists_at
lists_again d rest are =
    three_again issue_at after_issue spell_issue FitsIssue 0 cell_at after_cell spell_cell FitsCell no_place lists_with issue_item cell_item d.openings d.issues d.cells rest
    (record { openings = are.openings; seconds = are.issues; lasts = are.cells })

pub digest_takes : (version : ℕ) (bytes : List ℕ) (x : DigestValue × List ℕ) → IsVersion version → IsBytes bytes → digest_at version bytes ≡ Ok x → Takes bytes (spell_digest x.0) x.1 × IsDigest x.0 × (version ≡ version_with x.0.issue_rows)
unfolding digest_at
digest_takes version bytes x is_version fits e =
    let t = three_takes issue_row_at after_issue_row spell_issue_row FitsIssueRow 0 row_at after_row spell_row FitsRow (0, 0) digest_with issue_row_item row_item version bytes x is_version fits e in
    subst (λ (d : DigestValue). Takes bytes (spell_digest d) x.1 × IsDigest d × (version ≡ version_with d.issue_rows)) t.is
    (t.took, record { openings = t.fit.openings; issue_rows = t.fit.seconds; rows = t.fit.lasts }, t.versioned)

pub digest_again : (d : DigestValue) (rest : List ℕ) → IsDigest d → digest_at (version_with d.issue_rows) (spell_digest d ++ rest) ≡ Ok (d, rest)
unfolding digest_at
digest_again d rest is =
    three_again issue_row_at after_issue_row spell_issue_row FitsIssueRow 0 row_at after_row spell_row FitsRow (0, 0) digest_with issue_row_item row_item d.openings d.issue_rows d.rows rest
    (record { openings = is.openings; seconds = is.issue_rows; lasts = is.rows })

-- ---- nothing is left in a body

abbrev ended : {X : Type 0} → X × List ℕ → Result X WireFault
ended d = cond (length d.1 == 0) (Ok d.0) (Err Spare)

ended_ok : {X : Type 0} (x : X) (rest : List ℕ) (y : X) → ended (x, rest) ≡ Ok y → (rest ≡ []) × (x ≡ y)
ended_ok {X} x rest y e = by_test (length rest == 0) refl e
  where
    by_test : (b : Bool) → b ≡ (length rest == 0) → cond b (Ok x) (Err Spare) ≡ Ok y → (rest ≡ []) × (x ≡ y)
    by_test true is f = (nil_from_length rest (eqb-true _ _ (sym is)), ok_is x y f)
    by_test false is f = absurd cc

abbrev given : {X : Type 0} → X → List ℕ → Read X
given x rest = Ok (x, rest)

-- what is read to the end of the bytes
pub whole_ok : {X : Type 0} (read : Read X) (y : X) → whole read ≡ Ok y → read ≡ Ok (y, [])
unfolding whole
whole_ok {X} read y e =
    let a = bind_ok read ended y e in
    let b = ended_ok a.0.0 a.0.1 y a.2 in
    a.1 ∙ ap (λ (rest : List ℕ). given a.0.0 rest) b.0 ∙ ap (λ (x : X). given x []) b.1

pub whole_from : {X : Type 0} (read : Read X) (y : X) → read ≡ Ok (y, []) → whole read ≡ Ok y
unfolding whole
whole_from read y e = bind_from read ended (y, []) (Ok y) e refl

to_the_end : (bytes text : List ℕ) → Takes bytes text [] → bytes ≡ text
to_the_end bytes text took = took.parts ∙ append-nil text

-- the lists of a whole body are in order and within their limits
pub are_lists : (version : ℕ) (bytes : List ℕ) (d : BoardLists) → IsVersion version → IsBytes bytes → whole (lists_at version bytes) ≡ Ok d → AreLists d
are_lists version bytes d is_version fits e = (lists_takes version bytes (d, []) is_version fits (whole_ok (lists_at version bytes) d e)).1

pub is_digest : (version : ℕ) (bytes : List ℕ) (d : DigestValue) → IsVersion version → IsBytes bytes → whole (digest_at version bytes) ≡ Ok d → IsDigest d
is_digest version bytes d is_version fits e = (digest_takes version bytes (d, []) is_version fits (whole_ok (digest_at version bytes) d e)).1

-- ---- bodies

abbrev as_lists : BoardLists → Result Body WireFault
as_lists d = Ok (lists d)

abbrev as_rows : DigestValue → Result Body WireFault
as_rows d = Ok (rows d)

-- the body that the bytes spell
pub record IsSpelled (version kind : ℕ) (bytes : List ℕ) (b : Body) : Type 0 where
  pub versioned : version ≡ version_of b
  pub of_kind : kind ≡ kind_of b
  pub text : bytes ≡ spell_body b
  pub is_body : IsBody b

pub body_takes : (version kind : ℕ) (bytes : List ℕ) (b : Body) → IsVersion version → (kind ≡ 1) ⊎ (kind ≡ 2) → IsBytes bytes → body_at version kind bytes ≡ Ok b → IsSpelled version kind bytes b
unfolding body_at
body_takes version kind bytes b is_version (inl one) fits e =
    let read : (whole (lists_at version bytes) >>= as_lists) ≡ Ok b = rw one at e in
    let a = bind_ok (whole (lists_at version bytes)) as_lists b read in
    let t = lists_takes version bytes (a.0, []) is_version fits (whole_ok (lists_at version bytes) a.0 a.1) in
    subst (IsSpelled version kind bytes) (ok_is (lists a.0) b a.2) (record { versioned = t.2; of_kind = one; text = to_the_end bytes (spell_lists a.0) t.0; is_body = t.1 })
body_takes version kind bytes b is_version (inr two) fits e =
    let read : (whole (digest_at version bytes) >>= as_rows) ≡ Ok b = rw two at e in
    let a = bind_ok (whole (digest_at version bytes)) as_rows b read in
    let t = digest_takes version bytes (a.0, []) is_version fits (whole_ok (digest_at version bytes) a.0 a.1) in
    subst (IsSpelled version kind bytes) (ok_is (rows a.0) b a.2) (record { versioned = t.2; of_kind = two; text = to_the_end bytes (spell_digest a.0) t.0; is_body = t.1 })

pub body_again : (b : Body) → IsBody b → body_at (version_of b) (kind_of b) (spell_body b) ≡ Ok b
unfolding body_at
body_again (lists d) is = bind_from (whole (lists_at (version_with d.issues) (spell_lists d))) as_lists d (Ok (lists d)) (whole_from (lists_at (version_with d.issues) (spell_lists d)) d (ap (lists_at (version_with d.issues)) (sym (append-nil (spell_lists d))) ∙ lists_again d [] is)) refl
body_again (rows d) is = bind_from (whole (digest_at (version_with d.issue_rows) (spell_digest d))) as_rows d (Ok (rows d)) (whole_from (digest_at (version_with d.issue_rows) (spell_digest d)) d (ap (digest_at (version_with d.issue_rows)) (sym (append-nil (spell_digest d))) ∙ digest_again d [] is)) refl
