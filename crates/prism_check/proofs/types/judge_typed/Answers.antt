use Rattle.std.specs.Prelude.{map}
use Rattle.std.proofs.Common.{refl, ◌∙◌, ap}
use Rattle.prism_tree.specs.Syntax.{file_of, formula_of}
use Rattle.prism_flat.specs.Places.{at_places}
use Rattle.prism_check.specs.Typing.{declared_type, is_declared_variable, known_after}
use Rattle.prism_check.proofs.TypesJudged.{are_names}
use Rattle.prism_check.proofs.types.judge_typed.Goals as goal

pub judge_all-judged-requires : goal.judge_all-judged-requires
judge_all-judged-requires c =
    let file = file_of c.args.file.now in
    let order = c.args.order.now in
    let d = c.args.declared.now in
    let known = rw c.in_ok-formulas.ensures.ok.0 at c.known_formulas-formulas.ensures in
    record {
      modules = c.requires.modules;
      names =
          are_names file order _ c.requires.order c.requires.declared
          (λ x. known x ∙ ap (λ fs. known_after (declared_type d) (is_declared_variable d) (at_places (map formula_of fs) order) x) c.as_slice.ensures);
      unchanged = refl;
      writing = rw c.in_ok-formulas.ensures.ok.1 at c.of.ensures;
    }
