use Rattle.prism_check.proofs.Measured.{nodes_counted, height_counted}
use Rattle.prism_check.proofs.Limits.{limits_counted}
use Rattle.prism_check.proofs.laws.written_out_sizes_law.Goals as goal

pub returns : goal.returns
returns c = record { nodes = nodes_counted; height = height_counted; limits = limits_counted }
