-- What a PRISM file is under a valuation, as plain data. (PRISM manual, "The PRISM Language".)
use Rattle.std.specs.Prelude.{length, map}
use Rattle.process_core.specs.Instance.{Valuation}
use Rattle.prism_tree.specs.Syntax.{File}
use Rattle.prism_flat.specs.Scene.{scene}
use Rattle.prism_flat.specs.Moment.{moment}
use Rattle.prism_flat.specs.Process.{combinations, marks, has_wide_mark}
use Rattle.prism_instance.specs.Described.{mark_names}
use Rattle.network.specs.Outline.{Outline}

abbrev pub outline : File → Valuation → Outline
outline file v = record {
  texts = map (λ c. c.name) (scene file v).columns;
  mark_names = mark_names file;
  labels = length file.labels;
  scene = scene file v;
  at = λ s. record {
    condition = (moment file v s).condition;
    combinations = combinations (moment file v s);
    marks = marks (moment file v s);
    has_wide_mark = has_wide_mark (moment file v s);
  };
}
