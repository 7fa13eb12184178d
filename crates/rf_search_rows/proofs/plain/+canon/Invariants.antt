use Rattle.rf_search_rows.proofs.plain.+canon.Given as goal

abbrev pub decreases-canon : goal.decreases-canon
decreases-canon l = l.depth
