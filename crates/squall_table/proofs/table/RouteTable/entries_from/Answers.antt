use Rattle.std.proofs.Common.{◌≡◌, ap, ◌∙◌, sym, subst}
use Rattle.squall_blocks.specs.Entries.{RiseFrom, last_from, up_to, beyond}
use Rattle.squall_table.specs.LegEntries.{legs_from, legs_beyond}
use Rattle.squall_table.proofs.Walked.{entries_rise, beyond_legs}
use Rattle.squall_table.proofs.table.RouteTable.entries_from.Goals as goal

pub over-requires : goal.over-requires
over-requires c =
    let es = c.self.inside.legs in
    let from : c.end_before-from.result ≡ last_from 0 (up_to c.of_key-key.result es) = c.end_before-from.ensures ∙ ap (λ n. last_from n (up_to c.of_key-key.result es)) c.bottom.ensures in
    subst (λ xs. RiseFrom c.end_before-from.result xs) (sym c.iter_from.ensures) (subst (λ n. RiseFrom n (beyond c.of_key-key.result es)) (sym from) (entries_rise es c.of_key-key.result c.self.invariant.0))

pub returns-clause-legs : goal.returns-clause-legs
returns-clause-legs c =
    let es = c.self.inside.legs in
    let from : c.end_before-from.result ≡ last_from 0 (up_to c.of_key-key.result es) = c.end_before-from.ensures ∙ ap (λ n. last_from n (up_to c.of_key-key.result es)) c.bottom.ensures in
    c.over.ensures ∙ (λ i. legs_from (from i) (c.iter_from.ensures i)) ∙ beyond_legs 0 c.of_key-key.result es ∙ (λ i. legs_beyond (c.of_key-key.ensures i) (c.self.view_is i))
