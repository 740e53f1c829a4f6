use Rattle.squall_test_tables.proofs.table.patches.patch_on.Goals as goal

pub patch-requires-clause-was : goal.patch-requires-clause-was
patch-requires-clause-was c = (c.args.board.now, c.requires.table, c.in_ok-set.ensures.changed c.args.board.now _ c.in_ok-merge.ensures.takes.tells)
