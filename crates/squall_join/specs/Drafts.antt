-- A join of a map that is kept or undone (this project).
use Rattle.std.specs.Prelude.{◌≡◌, ℕ, ◌+◌, ◌≤◌, T, List, [], ◌∷◌, Option, None, Some, vec_len, vec_capacity}
use Rattle.std.proofs.Common.{get_or, set}
use Rattle.std.specs.declared.cmp.Ordering.{Ordering}
use Rattle.std.specs.List.{AllByRecursion}
use Rattle.std.specs.FinMap.Entries.{is_sorted, find}
use Rattle.squall_join.specs.declared.draft.Part.{Part}
use Rattle.squall_join.specs.declared.draft.Part.TheVariants.{Joined, Fresh}
use Rattle.squall_join.specs.declared.draft.MapDraft.{MapDraft}
use Rattle.squall_join.specs.declared.draft.MapDraft.TheVariants.{Whole, Parts}
use Rattle.squall_join.specs.Entries.{merged, IsAt}

-- the second of two values
abbrev pub later : {V : Type 0} → V → V → V
later v w = w

-- whether something was found
abbrev pub IsFound : {V : Type 0} → Option V → Type 0
IsFound None = ⊥
IsFound (Some v) = Unit {0}

-- how many entries are added with a key by which this was found
abbrev pub missing : {V : Type 0} → Option V → ℕ
missing None = 1
missing (Some v) = 0

-- how many entries the part adds
abbrev pub fresh_of : {V A : Type 0} → Part V A → ℕ
fresh_of (Joined d) = 0
fresh_of (Fresh v) = 1

-- how many entries the parts add
abbrev pub fresh_count : {K V A : Type 0} → List (K × Part V A) → ℕ
fresh_count [] = 0
fresh_count (p ∷ ps) = fresh_of p.1 + fresh_count ps

-- the key of a part that joins into a value is found
abbrev pub IsThere : {V A : Type 0} → Option V → Part V A → Type 0
IsThere found (Joined d) = IsFound found
IsThere found (Fresh v) = Unit {0}

-- what holds of each draft
abbrev pub IsValid : {V A : Type 0} → (A → Type 0) → Part V A → Type 0
IsValid is_draft (Joined d) = is_draft d
IsValid is_draft (Fresh v) = Unit {0}

-- the value with the part
abbrev pub value_after : {V A : Type 0} → (A → V) → Part V A → V
value_after after (Joined d) = after d
value_after after (Fresh v) = v

module _ {K V A : Type 0} (before : A → V) where
  -- the entry that a part took out, before other ones
  abbrev pub entry_before : K → Part V A → List (K × V) → List (K × V)
  entry_before k (Joined d) es = (k, before d) ∷ es
  entry_before k (Fresh v) es = es

  -- the entries that the parts took out
  abbrev pub befores : List (K × Part V A) → List (K × V)
  befores [] = []
  befores (p ∷ ps) = entry_before p.0 p.1 (befores ps)

module _ {K V A : Type 0} (after : A → V) where
  -- the entries with the parts
  abbrev pub afters : List (K × Part V A) → List (K × V)
  afters [] = []
  afters (p ∷ ps) = (p.0, value_after after p.1) ∷ afters ps

-- the least value has taken the place of the value at the key
pub record IsEmptied {K V : Type 0} (R : K → K → Ordering) (bottom : V) (old new : List (K × V)) (key : K) : Type 0 where
  pub at : ℕ
  pub entry : K × V
  pub is_at : IsAt R old key at
  pub entry_is : entry ≡ get_or old at entry
  pub new_is : new ≡ set old at (entry.0, bottom)

module _ {K V A : Type 0} (R : K → K → Ordering) (bottom : V) (join : V → V → V) (before after : A → V) (is_draft : A → Type 0) where
  -- the draft of a join with the value at a key, which it has taken out of the entries
  pub record IsTaken (old new : List (K × V)) (key : K) (w : V) (d : A) : Type 0 where
    pub found : find R key old ≡ Some (before d)
    pub joined : after d ≡ join (before d) w
    pub valid : is_draft d
    pub emptied : IsEmptied R bottom old new key

  -- a copy of a value whose key is absent
  pub record IsCopied (old new : List (K × V)) (key : K) (w v : V) : Type 0 where
    pub absent : find R key old ≡ None
    pub value : v ≡ w
    pub same : new ≡ old

  -- the part of the join with a value at a key
  abbrev pub IsPartOf : List (K × V) → List (K × V) → K → V → Part V A → Type 0
  IsPartOf old new key w (Joined d) = IsTaken old new key w d
  IsPartOf old new key w (Fresh v) = IsCopied old new key w v

module _ {K V A : Type 0} (R : K → K → Ordering) (before after : A → V) where
  -- the entries before the join
  abbrev pub undone : List (K × V) → List (K × Part V A) → List (K × V)
  undone es ps = merged R later es (befores before ps)

  -- the entries with the join
  abbrev pub kept : List (K × V) → List (K × Part V A) → List (K × V)
  kept es ps = merged R later es (afters after ps)

  -- the map before the join
  abbrev pub map_before : MapDraft K V A → List (K × V)
  map_before (Whole old new) = old.items
  map_before (Parts es ps) = undone es.items ps.items

  -- the map with the join
  abbrev pub map_after : MapDraft K V A → List (K × V)
  map_after (Whole old new) = new.items
  map_after (Parts es ps) = kept es.items ps.items

module _ {K V A : Type 0} (R : K → K → Ordering) (before after : A → V) (is_draft : A → Type 0) where
  -- entries, and parts for some of them and for others, in the order of their keys
  pub record IsDrafted (es : List (K × V)) (ps : List (K × Part V A)) : Type 0 where
    pub sorted : T (is_sorted R es)
    pub befores_rise : T (is_sorted R (befores before ps))
    pub afters_rise : T (is_sorted R (afters after ps))
    pub there : AllByRecursion (λ p. IsThere (find R p.0 es) p.1) ps
    pub valid : AllByRecursion (λ p. IsValid is_draft p.1) ps

  -- the parts of entries that have room for all that they add
  pub record HasParts (is_map : List (K × V) → Type 0) (es : List (K × V)) (len capacity : ℕ) (ps : List (K × Part V A)) : Type 0 where
    pub drafted : IsDrafted es ps
    pub room : len + fresh_count ps ≤ capacity
    pub undone_is : is_map (undone R before after es ps)
    pub kept_is : is_map (kept R before after es ps)

  -- both are maps
  abbrev pub IsMapDraft : (List (K × V) → Type 0) → MapDraft K V A → Type 0
  IsMapDraft is_map (Whole old new) = is_map old.items × is_map new.items
  IsMapDraft is_map (Parts es ps) = HasParts is_map es.items (vec_len es) (vec_capacity es) ps.items
