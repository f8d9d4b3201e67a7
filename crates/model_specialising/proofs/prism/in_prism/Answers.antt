use Rattle.model_specialising.proofs.prism.in_prism.Goals as goal

pub returns : goal.returns
returns c = λ bytes read. let tree = c.in-Ok.ensures.ok bytes read in (tree.0, tree.1, c.in_ok-ending.ensures tree.0 tree.2)
