use Rattle.argdata_codec.proofs.encoding.+further.Given as goal

abbrev pub decreases-further : goal.decreases-further
decreases-further l = l.steps
