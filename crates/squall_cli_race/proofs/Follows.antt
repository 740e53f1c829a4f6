-- What follows a line of a race file.
use Rattle.std.proofs.Common.{◌≡◌, ◌∙◌, ◌++◌, ℕ, List, Some, Result, Ok, Err, IfOk, ap, sym, subst}
use Rattle.std.specs.declared.alloc.AllocError.{AllocError}
use Rattle.squall_cli_words.specs.declared.reason.Reason.{Reason}
use Rattle.squall_cli_race.specs.declared.file.BadLine.{BadLine}
use Rattle.squall_cli_race.specs.RaceFiles.{RaceState, followed}
use Rattle.squall_cli_lines.specs.declared.Ended.{Ended}
use Rattle.squall_cli_race.specs.RaceText.{EndsIn, ShowsFile}
use Rattle.squall_cli_race.specs.Taken.{Took, TookNext, IsRead}

pub bad_next : (bad : BadLine) (why : Reason) (s : RaceState) (n : ℕ) (after : Result RaceState Reason) → bad.number ≡ n → bad.reason ≡ why → Took (Ok (Some why)) s after → TookNext (Ok (Err bad)) s n after
bad_next bad why s n (Ok t) en er took = took
bad_next bad why s n (Err reason) en er took = (en, er ∙ took)

-- nothing follows a bad line
pub bad_follows : (bad : BadLine) (s : RaceState) (n : ℕ) (others : RaceState → Result RaceState (ℕ × Reason)) (after : Result RaceState Reason) → TookNext (Ok (Err bad)) s n after → IsRead (Err bad) (followed n others after)
bad_follows bad s n others (Ok t) h = absurd h
bad_follows bad s n others (Err reason) h = h

-- the other lines follow any other
pub others_follow : (done : Unit) (s : RaceState) (n : ℕ) (others : RaceState → Result RaceState (ℕ × Reason)) (after : Result RaceState Reason) → TookNext (Ok (Ok done)) s n after → followed n others after ≡ others s
others_follow done s n others (Ok t) h = ap others (sym h)
others_follow done s n others (Err reason) h = absurd h

-- what the race that was read shows, its file does
pub read_shows : (s : RaceState) (file : Result RaceState (ℕ × Reason)) (ended : Ended) (shown : List ℕ) → IsRead (Ok s) file → EndsIn s s.plans ended shown → ShowsFile file ended shown
read_shows s (Ok t) ended shown e h = subst (λ u. EndsIn u u.plans ended shown) e h
read_shows s (Err bad) ended shown e h = absurd e

pub shows_if_ok : (r : Result Ended AllocError) (old new : List ℕ) (s : RaceState) (file : Result RaceState (ℕ × Reason)) → IsRead (Ok s) file → IfOk r (λ ended. (x : List ℕ) × (new ≡ old ++ x) × EndsIn s s.plans ended x) → IfOk r (λ ended. (x : List ℕ) × (new ≡ old ++ x) × ShowsFile file ended x)
shows_if_ok (Ok ended) old new s file e h = (h.0, h.1, read_shows s file ended h.0 e h.2)
shows_if_ok (Err failed) old new s file e h = tt
