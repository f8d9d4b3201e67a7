use Rattle.jani_instance.proofs.transients.gathered.Goals as goal

pub returns : goal.returns
returns c = record { all = c.in_ok-all.ensures; own = c.in_ok-own.ensures }
