use Rattle.std.proofs.Common.{◌≡◌, ◌<◌, ◌≤◌, ◌-◌, ◌∙◌, ◌++◌, length, sym, ap, subst}
use Rattle.std.specs.Prelude.{Some, codes, slice_get}
use Rattle.std.specs.Fmt.{decimal}
use Rattle.std.proofs.lemmas.Result.{IfOk-weaker}
use Rattle.jani_tree.specs.Syntax.{file_of}
use Rattle.jani_instance.specs.Described.{column_texts}
use Rattle.jani_instance.proofs.Texts.{location_text, variable_text}
use Rattle.jani_instance.proofs.instance.JaniInstanceSteps.column_text.Goals as goal

pub returns-then-i-count : goal.returns-then-i-count
returns-then-i-count c =
    let file = file_of c.args.self.now.checked.now in
    let count = ap length c.as_slice-count.ensures.value ∙ c.args.self.now.sound.elements_are in
    IfOk-weaker c.numbered_text.result (λ t. t ≡ codes "@" ++ decimal c.args.i) (λ t. slice_get (column_texts file) c.args.i ≡ Some t)
    (λ t e. location_text file c.args.i (subst (λ n. c.args.i < n) count c.if-i-count.true) ∙ ap Some (sym e))
    c.numbered_text.ensures

pub returns-else-i-count : goal.returns-else-i-count
returns-else-i-count c =
    let file = file_of c.args.self.now.checked.now in
    let count = ap length c.as_slice-count.ensures.value ∙ c.args.self.now.sound.elements_are in
    IfOk-weaker c.numbered_text-else-i-count.result (λ t. t ≡ codes "#" ++ decimal (c.args.i - length c.as_slice-count.result.now)) (λ t. slice_get (column_texts file) c.args.i ≡ Some t)
    (λ t e. variable_text file c.args.i (subst (λ n. n ≤ c.args.i) count c.if-i-count.false) c.requires ∙ ap (λ n. Some (codes "#" ++ decimal (c.args.i - n))) (sym count) ∙ ap Some (sym e))
    c.numbered_text-else-i-count.ensures
