use Rattle.std.proofs.Common.{◌≡◌, ◌∙◌, ℕ, ◌+◌, Option, Some, None, refl, ap, ap₂, sym, length, arith}
use Rattle.std.specs.List.{position}
use Rattle.std.specs.Option.{option_map}
use Rattle.std.proofs.lemmas.List.{length-map}
use Rattle.instance_start.specs.declared.data.Place.TheVariants.{Variable}
use Rattle.jani_tree.specs.Syntax.{file_of, element_names}
use Rattle.jani_meaning.specs.Elements.{is_global, is_own}
use Rattle.jani_instance.specs.Parts.{automaton_at}
use Rattle.jani_meaning.specs.LoopLaws.{element_count}
use Rattle.jani_instance.proofs.located.owning_of.Goals as goal

-- counted from 0
from_first : (o : Option ℕ) → option_map (λ j. Variable (0 + j)) o ≡ option_map Variable o
from_first None = refl
from_first (Some j) = ap (λ n. Some (Variable n)) (let d : 0 + j ≡ j = omega arith in d)

pub returns : goal.returns
returns c =
    let b = c.args.basis.now in
    let file = file_of b.file.now in
    let k = c.requires in
    let count : length b.parts.now ≡ length (element_names file) = sym (length-map b.parts.now automaton_at) ∙ ap length k.parts ∙ element_count file in
    record {
      columns = λ i x. c.in_ok-columns.ensures i x ∙ ap₂ (λ n l. option_map (λ j. Variable (n + j)) (position (is_own i x) l)) count k.variables;
      structures = λ i x. c.in_ok-structures.ensures i x ∙ from_first _ ∙ ap (λ l. option_map Variable (position (is_own i x) l)) k.rewards;
      global = λ x. c.in_ok-global.ensures x ∙ from_first _ ∙ ap (λ l. option_map Variable (position (is_global x) l)) k.rewards;
    }
