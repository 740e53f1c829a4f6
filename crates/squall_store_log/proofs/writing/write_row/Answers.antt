use Rattle.std.proofs.Common.{◌≡◌, List, ℕ, ◌++◌, length, append_assoc, ap, ◌∙◌}
use Rattle.squall_store_log.specs.Records.{word, rank, spell_row}
use Rattle.squall_store_log.proofs.writing.write_row.Goals as goal

three : (k n key : ℕ) (v value o o1 o2 o3 : List ℕ) → k ≡ key → n ≡ length value → v ≡ value → o1 ≡ o ++ rank k → o2 ≡ o1 ++ word n → o3 ≡ o2 ++ v → o3 ≡ o ++ spell_row (key, value)
three k n key v value o o1 o2 o3 ek en ev h1 h2 h3 =
    h3 ∙ ap (λ (z : List ℕ). z ++ v) (h2 ∙ ap (λ (z : List ℕ). z ++ word n) h1) ∙ append_assoc (o ++ rank k) (word n) v ∙ append_assoc o (rank k) (word n ++ v)
    ∙ ap (λ (z : ℕ). o ++ (rank z ++ (word n ++ v))) ek ∙ ap (λ (z : ℕ). o ++ (rank key ++ (word z ++ v))) en ∙ ap (λ (z : List ℕ). o ++ (rank key ++ (word (length value) ++ z))) ev

pub returns-clause-written : goal.returns-clause-written
returns-clause-written c = three c.rank.result (length c.as_slice-value.result.now) c.args.key c.as_slice-value.result.now c.args.value.now c.args.out.now.items
    c.write_rank.new.out.items c.write_word.new.out.items c.extend_from_slice.new.self.items c.rank.ensures.value (ap length c.as_slice-value.ensures) c.as_slice-value.ensures
    c.in_ok-write_rank.ensures c.in_ok-write_word.ensures c.in_ok-extend_from_slice.ensures.items
