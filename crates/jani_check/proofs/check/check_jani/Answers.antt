use Rattle.jani_check.proofs.check.check_jani.Goals as goal

pub invariant_of-result : goal.invariant_of-result
invariant_of-result c = record {
  checked = record { clean = c.in-Ok.ensures.clean; form = c.requires.form; once = c.requires.once };
  edges_are = c.in-Ok.ensures.edges;
}
