-- What was given and loaded under each number, and whether it is closed, after the log of one number was changed.
use Rattle.std.proofs.Common.{◌≡◌, ℕ, ◌==◌, Bool, true, false, cond, List, map, Option, None, Some, option_map, refl, ap, ◌∙◌}
use Rattle.squall_span.specs.Spans.{Interval}
use Rattle.squall_part.specs.Parts.{Log, log_of, given_in, loaded_in, closed_in, with_given, with_loaded, with_closed}
use Rattle.squall_part.proofs.Logs.{edit, edited, eq_same}
use Rattle.squall_part.proofs.Changed.{given_log, loaded_log, closed_log}

-- the keys that are set, and those given under other numbers
pub given_with : (n m : ℕ) (keys : List Interval) (logs : List Log) (l : Log) → log_of logs n ≡ Some l → given_in (log_of (with_given n keys logs) m) ≡ cond (m == n) keys (given_in (log_of logs m))
given_with n m keys logs l known = ap given_in (edited n (given_log keys) (λ l. refl) logs m) ∙ by (m == n) refl
  where
    by : (b : Bool) → (m == n) ≡ b → given_in (cond b (option_map (given_log keys) (log_of logs m)) (log_of logs m)) ≡ cond b keys (given_in (log_of logs m))
    by true e = ap (λ v. given_in (option_map (given_log keys) v)) (ap (log_of logs) (eq_same m n e) ∙ known)
    by false e = refl

pub loaded_with : (n m : ℕ) (keys : List Interval) (logs : List Log) (l : Log) → log_of logs n ≡ Some l → loaded_in (log_of (with_loaded n keys logs) m) ≡ cond (m == n) keys (loaded_in (log_of logs m))
loaded_with n m keys logs l known = ap loaded_in (edited n (loaded_log keys) (λ l. refl) logs m) ∙ by (m == n) refl
  where
    by : (b : Bool) → (m == n) ≡ b → loaded_in (cond b (option_map (loaded_log keys) (log_of logs m)) (log_of logs m)) ≡ cond b keys (loaded_in (log_of logs m))
    by true e = ap (λ v. loaded_in (option_map (loaded_log keys) v)) (ap (log_of logs) (eq_same m n e) ∙ known)
    by false e = refl

-- what a change of one log leaves of each, it leaves under every number
beside : {A : Type 0} (look : Option Log → A) (n m : ℕ) (f : Log → Log) (logs : List Log) → ((l : Log) → (f l).course ≡ l.course) → ((l : Log) → look (Some (f l)) ≡ look (Some l))
    → look (log_of (map (edit n f) logs) m) ≡ look (log_of logs m)
beside look n m f logs same left = ap look (edited n f same logs m) ∙ by (m == n)
  where
    each : (o : Option Log) → look (option_map f o) ≡ look o
    each None = refl
    each (Some l) = left l

    by : (b : Bool) → look (cond b (option_map f (log_of logs m)) (log_of logs m)) ≡ look (log_of logs m)
    by true = each (log_of logs m)
    by false = refl

-- a gift leaves what was loaded, and a load what was given
pub loaded_beside : (n m : ℕ) (keys : List Interval) (logs : List Log) → loaded_in (log_of (with_given n keys logs) m) ≡ loaded_in (log_of logs m)
loaded_beside n m keys logs = beside loaded_in n m (given_log keys) logs (λ l. refl) (λ l. refl)

pub given_beside : (n m : ℕ) (keys : List Interval) (logs : List Log) → given_in (log_of (with_loaded n keys logs) m) ≡ given_in (log_of logs m)
given_beside n m keys logs = beside given_in n m (loaded_log keys) logs (λ l. refl) (λ l. refl)

-- and both leave the logs that are closed
pub closed_beside_gift : (n m : ℕ) (keys : List Interval) (logs : List Log) → closed_in (log_of (with_given n keys logs) m) ≡ closed_in (log_of logs m)
closed_beside_gift n m keys logs = beside closed_in n m (given_log keys) logs (λ l. refl) (λ l. refl)

pub closed_beside_load : (n m : ℕ) (keys : List Interval) (logs : List Log) → closed_in (log_of (with_loaded n keys logs) m) ≡ closed_in (log_of logs m)
closed_beside_load n m keys logs = beside closed_in n m (loaded_log keys) logs (λ l. refl) (λ l. refl)

-- the end of a course leaves what was given and loaded, and closes one log
pub given_beside_close : (n m : ℕ) (logs : List Log) → given_in (log_of (with_closed n logs) m) ≡ given_in (log_of logs m)
given_beside_close n m logs = beside given_in n m closed_log logs (λ l. refl) (λ l. refl)

pub loaded_beside_close : (n m : ℕ) (logs : List Log) → loaded_in (log_of (with_closed n logs) m) ≡ loaded_in (log_of logs m)
loaded_beside_close n m logs = beside loaded_in n m closed_log logs (λ l. refl) (λ l. refl)
