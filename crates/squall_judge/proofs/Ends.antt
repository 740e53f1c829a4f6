-- What a judge says once all is taken that any run has.
use Rattle.std.proofs.Common.{◌≡◌, ℕ, ◌<◌, ◌≤◌, List, length, Some, sym, subst, ◌∙◌}
use Rattle.std.specs.Prelude.{Option}
use Rattle.std.specs.List.{slice_get}
use Rattle.squall_protocol.specs.Worlds.{WorldValue}
use Rattle.squall_judge.specs.declared.log.Log.{Log}
use Rattle.squall_judge.specs.declared.judgment.Cause.{Cause}
use Rattle.squall_judge.specs.Merges.{IsEnd}
use Rattle.squall_judge.specs.Judging.{AreCauses, IsAccepted, IsRefused}
use Rattle.squall_judge.proofs.Logs.{are_first, all_taken}

pub accepted : (s w : WorldValue) (logs : List Log) (ns ms : List ℕ) → ms ≡ ns → IsEnd s w logs ns → ((i n : ℕ) (log : Log) → slice_get logs i ≡ Some log → slice_get ms i ≡ Some n → length log.entries.items ≤ n) → IsAccepted s logs
accepted s w logs ns ms same end most =
    record {
      world = w;
      has = record {
        run = end.has.run;
        trace = end.has.trace;
        written = λ m. end.has.written m ∙ all_taken logs ns end.each (λ i n log here there. most i n log here (subst (λ ks. slice_get ks i ≡ Some n) (sym same) there)) m;
      };
      reached = end.reached;
    }

pub refused : (s w : WorldValue) (logs : List Log) (ns ms : List ℕ) (causes : List (Option Cause)) → ms ≡ ns → IsEnd s w logs ns → AreCauses s w logs ns causes
    → (i : ℕ) × (n : ℕ) × (log : Log) × (slice_get logs i ≡ Some log) × (slice_get ms i ≡ Some n) × (n < length log.entries.items) → IsRefused s logs ns causes
refused s w logs ns ms causes same end are left =
    record {
      world = w;
      has = end.has;
      first = are_first logs ns end.each;
      each = end.each;
      within = end.within;
      left = (left.0, left.1, left.2, left.3, subst (λ ks. slice_get ks left.0 ≡ Some left.1) same left.4, left.5);
      none = end.none;
      causes = are;
    }
