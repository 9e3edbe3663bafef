use Rattle.pup_pack.proofs.floats.f64_len.Goals as goal

pub returns-clause-fits : goal.returns-clause-fits
returns-clause-fits c = c.well_formed.0.1
