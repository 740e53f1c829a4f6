use Rattle.std.proofs.Common.{rules, ◌&&◌, ◌==◌}
use Rattle.std.proofs.lemmas.List.Sorted.{answers_always}
use Rattle.squall_delta.specs.Repairs.{is_same_hash}
use Rattle.squall_delta.proofs.Searched.{pair_cmp, pair_total, row_key, rows_less, row_test, any_found, any_absent, absent}
use Rattle.squall_delta.proofs.shown.row_shown.Goals as goal

pub returns-in-Ok-clause-some : goal.returns-in-Ok-clause-some
returns-in-Ok-clause-some c = λ hash. any_found pair_cmp pair_total row_key (c.args.number, c.args.sub) (λ r. (r.number == c.args.number) && ((r.sub == c.args.sub) && is_same_hash r.hash hash)) (λ r. is_same_hash r.hash hash) (row_test c.args.number c.args.sub hash)
    c.args.rows.now (rows_less c.args.rows.now c.requires.turn) c.in-Ok.at _ c.in-Ok.ensures.bound
    (c.in-Ok.ensures.position row_key (answers_always _ _ _ (λ f a r g called. search rules)) _)

pub returns-in-Err-clause-none : goal.returns-in-Err-clause-none
returns-in-Err-clause-none c = λ hash. any_absent pair_cmp pair_total row_key (c.args.number, c.args.sub) (λ r. (r.number == c.args.number) && ((r.sub == c.args.sub) && is_same_hash r.hash hash)) (λ r. is_same_hash r.hash hash) (row_test c.args.number c.args.sub hash)
    c.args.rows.now
    (absent pair_cmp pair_total row_key (c.args.number, c.args.sub) c.args.rows.now (rows_less c.args.rows.now c.requires.turn) c.in-Err.field-0
    (c.in-Err.ensures.position row_key (answers_always _ _ _ (λ f a r g called. search rules))))
