use Rattle.std.proofs.Common.{◌∙◌, ap, map}
use Rattle.process_core.specs.Instance.{Column}
use Rattle.instance_start.specs.Columns.{column_of}
use Rattle.prism_instance.proofs.start.what_is_fixed.Goals as goal

pub returns : goal.returns
returns c = record {
  parts = c.in_ok-parts.ensures;
  marks = c.in_ok-marks.ensures;
  texts = c.in_ok-texts.ensures ∙ ap (λ l. map (λ (k : Column). k.name) (map column_of l)) c.as_slice.ensures.value;
}
