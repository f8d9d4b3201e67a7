use Rattle.std.proofs.Common.{◌∙◌, ◌++◌, drop, ap, sym, append-nil}
use Rattle.std.proofs.lemmas.List.{at_drop_all}
use Rattle.jani_instance.specs.Actions.{links_by}
use Rattle.jani_instance.proofs.Kept.{no_parts}
use Rattle.jani_instance.proofs.vectors.links.Goals as goal

pub returns : goal.returns
returns c =
    let all = c.loop-i.all.items in
    let ts = drop c.loop-i.i c.args.actions.now in
    sym (append-nil all)
    ∙ ap (λ l. all ++ l) (sym (at_drop_all (links_by c.loop-i.i ts) c.args.parts.now c.loop-i.i c.loop-i-test.false ∙ no_parts c.loop-i.i ts))
    ∙ c.loop-i.invariant
