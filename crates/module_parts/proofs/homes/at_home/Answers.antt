use Rattle.std.proofs.Common.{◌++◌, ◌∙◌, ap, ap₂, map, List}
use Rattle.std.specs.Prelude.{◌&&◌, is_none}
use Rattle.std.specs.List.{filter}
use Rattle.std.proofs.lemmas.List.Elements.{filter_agree}
use Rattle.jani_meaning.specs.Elements.{is_owner}
use Rattle.edge_tables.specs.Elements.{Lasting, lasting_variables, home, is_at}
use Rattle.module_parts.specs.declared.parts.LastingVar.{LastingVar}
use Rattle.module_parts.specs.Code.{file_in, lasting_of}
use Rattle.module_parts.specs.Homes.{is_adopted}
use Rattle.module_parts.proofs.Kept.{home_same}
use Rattle.module_parts.proofs.homes.at_home.Goals as goal

pub returns : goal.returns
returns c = λ k.
    let f = file_in c.args.names.now in
    c.in_ok-add_adopted.ensures k
    ∙ ap₂ (λ (a b : List Lasting). a ++ b)
    (c.in_ok-add_own.ensures k
    ∙ ap₂ (λ (l : List LastingVar) (m : List Lasting). map lasting_of l ++ filter (λ x. is_owner k x.owned.owner) m) (c.new-all.ensures k) c.requires.vars)
    (ap (λ (m : List Lasting). filter (is_adopted c.args.writers.now k) m) c.requires.vars
    ∙ filter_agree (is_adopted c.args.writers.now k) (λ x. is_none x.owned.owner && is_at k (home f x))
    (λ x. ap (λ o. is_none x.owned.owner && is_at k o) (home_same c.args.writers.now f x c.requires.writers)) (lasting_variables f))
