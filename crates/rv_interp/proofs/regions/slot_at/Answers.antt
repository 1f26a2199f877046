use Rattle.rv_interp.proofs.regions.slot_at.Goals as goal

pub returns-clause-kept : goal.returns-clause-kept
returns-clause-kept c = λ m base h. h.each c.args.place _ c.requires

pub returns-clause-last : goal.returns-clause-last
returns-clause-last c = λ m base h end. h.last c.args.place _ end
