use Rattle.std.proofs.Common.{◌≡◌, ◌++◌, take, map, false}
use Rattle.std.specs.List.{list_any}
use Rattle.decimal_json.specs.Text.{with_commas}
use Rattle.process_texts.specs.Given.{is_wide_value}
use Rattle.process_texts.specs.Texts.{value_text}
use Rattle.walk_texts.proofs.parts.push_values.Given as goal

abbrev pub invariant-loop-i : goal.invariant-loop-i
invariant-loop-i l = record {
  text : l.out.items ≡ l.initial.out.items ++ with_commas (take l.i (map value_text l.values));
  narrow : list_any is_wide_value (take l.i l.values) ≡ false;
}
