use Rattle.rows.proofs.reading.+state_at.Given as goal

abbrev pub decreases-state_at : goal.decreases-state_at
decreases-state_at g l = l.tag
