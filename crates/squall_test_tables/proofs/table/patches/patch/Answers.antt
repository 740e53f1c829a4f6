use Rattle.squall_test_tables.proofs.table.patches.patch.Goals as goal

pub metered-requires : goal.metered-requires
metered-requires c = (c.args.board.now, c.requires, c.in_ok-set.ensures.changed c.args.board.now _ c.in_ok-merge.ensures.takes.tells)
