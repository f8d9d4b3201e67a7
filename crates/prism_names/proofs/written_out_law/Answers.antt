use Rattle.prism_names.specs.Laws.{parts-flat, seen_written_out, sizes_written_out}
use Rattle.prism_names.proofs.written_out_law.Goals as goal

pub returns : goal.returns
returns c = record { expressions = seen_written_out; modules = parts-flat; sizes = sizes_written_out }
