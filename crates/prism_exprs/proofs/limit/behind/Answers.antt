use Rattle.std.proofs.Common.{◌∙◌, ap, sym, refl, List, map}
use Rattle.std.proofs.lemmas.List.{drop-map}
use Rattle.prism_exprs.specs.declared.tokens.Found.{Found}
use Rattle.prism_exprs.specs.Kept.{lexeme_at}
use Rattle.prism_exprs.proofs.limit.behind.Goals as goal

pub returns-then-count-gt-MOST-clause-err : goal.returns-then-count-gt-MOST-clause-err
returns-then-count-gt-MOST-clause-err c =
    let f = lexeme_at c.args.tokens.source.now.bytes.now c.args.tokens.source.now.literals.now in
    (c.if-count-gt-MOST.true, c.with.ensures ∙ ap (λ (u : List Found). map f u) c.split_at.ensures.back ∙ sym (drop-map f 1024 c.args.tokens.found.now), refl)
