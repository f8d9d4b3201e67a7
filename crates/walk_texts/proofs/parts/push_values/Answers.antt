use Rattle.std.proofs.Common.{sym, ap, ap₂, ◌∙◌, ◌||◌, map, arith}
use Rattle.std.proofs.lemmas.List.{length-map}
use Rattle.std.proofs.lemmas.List.Folds.{list_any_more}
use Rattle.std.proofs.Math.ListN as Math
use Rattle.process_texts.specs.Given.{is_wide_value}
use Rattle.process_texts.specs.Texts.{value_text}
use Rattle.process_texts.proofs.Commas.{goes_on}
use Rattle.walk_texts.proofs.parts.push_values.Goals as goal

pub loop-i-preserved : goal.loop-i-preserved
loop-i-preserved c =
    let values = c.args.values.now in
    record {
      text =
          goes_on c.args.out.now.items (map value_text values) c.loop-i.i (value_text c.index-values-i.result) _ _ _ (let n = length-map values value_text in let k = c.loop-i-test.true in omega arith)
          (ap value_text c.index-values-i.is ∙ sym (Math.get_or-map value_text values c.loop-i.i c.index-values-i.result)) c.loop-i.invariant.text
          c.in_ok-push_comma.ensures c.in_ok-push_value.ensures.text;
      narrow =
          list_any_more is_wide_value values c.loop-i.i c.index-values-i.result c.loop-i-test.true
          ∙ ap₂ (λ a b. a || b) c.loop-i.invariant.narrow (ap is_wide_value (sym c.index-values-i.is) ∙ c.in_ok-push_value.ensures.narrow);
    }
