-- The process that is stepped is the one that the file means. (PRISM manual, "The PRISM Language".)
use Rattle.std.specs.Prelude.{◌≡◌}
use Rattle.process_core.specs.Process.{under}
use Rattle.process_core.specs.Instance.{Valuation}
use Rattle.process_core.specs.Steps.{seen_by}
use Rattle.prism_tree.specs.Syntax.{File}
use Rattle.prism_flat.specs.Process.{model}
use Rattle.prism_instance.specs.Described.{described}

-- under each valuation what is described has the states, the initial ones, the marks and the choices of the model
abbrev pub OneProcess : Type 0
OneProcess = (file : File) (v : Valuation) → seen_by (described file v) ≡ under (model file) v
