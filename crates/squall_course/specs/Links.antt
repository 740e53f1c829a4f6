-- The links between two plans: which partitions send keys to which (this project). Only the contracts of private functions cite
-- these definitions; what callers learn of destinations is in Subplans.
use Rattle.std.specs.Prelude.{◌≡◌, ℕ, ◌<◌, ◌==◌, ◌&&◌, ◌⊎◌, max, nat_lt, Bool, List, [], ◌∷◌, filter, map, length}
use Rattle.std.specs.List.{AllByRecursion, prefix_len}
use Rattle.squall_plan.specs.declared.range.PlanRange.{PlanRange}
use Rattle.squall_course.specs.declared.transfer.Transfer.{Transfer}
use Rattle.squall_course.specs.declared.moving.Move.{Move}
use Rattle.squall_course.specs.declared.link.Link.{Link}
use Rattle.squall_course.specs.Subplans.{dests}

-- the link goes from the source to the destination
abbrev pub is_link : ℕ → ℕ → Link → Bool
is_link source dest l = (l.source == source) && (l.dest == dest)

-- the transfer goes from the source to the destination
abbrev pub goes : ℕ → ℕ → Transfer → Bool
goes source dest p = (p.source == source) && (p.dest == dest)

-- the link of a transfer
abbrev pub link_of : Transfer → Link
link_of p = record { source = p.source; dest = p.dest }

-- the order of links: by source, then by destination
abbrev pub Ahead : Link → Link → Type 0
Ahead f g = (f.source < g.source) ⊎ ((f.source ≡ g.source) × (f.dest < g.dest))

-- each link is ahead of all later ones
abbrev pub Sorted : List Link → Type 0
Sorted [] = Unit {0}
Sorted (f ∷ fs) = AllByRecursion (Ahead f) fs × Sorted fs

-- the links of a source
abbrev pub links_of : ℕ → List Link → List Link
links_of source fs = filter (λ f. f.source == source) fs

-- how many links of a source go to a lower destination
abbrev pub lower_links : ℕ → ℕ → List Link → ℕ
lower_links source dest fs = prefix_len (λ f. nat_lt f.dest dest) (links_of source fs)

-- the greatest number of links of a partition of the ranges
abbrev pub most_links : List Link → List PlanRange → ℕ
most_links fs [] = 0
most_links fs (r ∷ rs) = max (length (links_of r.part fs)) (most_links fs rs)

-- a transfer with its sub-plan by the links
abbrev pub numbered_by : List Link → Transfer → Move
numbered_by fs p = record { span = p.span; source = p.source; dest = p.dest; sub = lower_links p.source p.dest fs }

-- the links between two plans: in order, and those of a source are its destinations
pub record IsTable (old new : List PlanRange) (fs : List Link) : Type 0 where
  pub sorted : Sorted fs
  pub rows : (source : ℕ) → map (λ f. f.dest) (links_of source fs) ≡ dests old new source
