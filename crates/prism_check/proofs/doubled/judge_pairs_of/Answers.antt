use Rattle.std.specs.Prelude.{[], ◌∷◌, IfOk}
use Rattle.std.specs.List.{flat_map}
use Rattle.std.proofs.Common.{◌≡◌, ◌∙◌, sym, ap, subst}
use Rattle.std.proofs.lemmas.List.Concat.{flat_map_single}
use Rattle.bridge_io.specs.declared.reason.Reason.TheVariants.{TwiceNamed}
use Rattle.prism_tree.specs.Syntax.{module_of}
use Rattle.name_rules.specs.Least.{soonest}
use Rattle.name_rules.specs.Doubled.{doubled}
use Rattle.prism_check.specs.NameFaults.{doubled_pairs}
use Rattle.prism_check.proofs.doubled.judge_pairs_of.Goals as goal

pub returns-in-Copied : goal.returns-in-Copied
returns-in-Copied c =
    subst (λ e. IfOk c.judge_names_of.result (λ best. best ≡ soonest c.args.before (doubled_pairs (module_of e)))) (sym c.in-Copied.is)
    (subst (λ ns. IfOk c.judge_names_of.result (λ best. best ≡ soonest c.args.before (doubled TwiceNamed ns)))
    (ap (flat_map (λ p. p.old ∷ [])) c.as_slice.ensures ∙ flat_map_single (λ p. p.old) c.in-Copied.m.pairs)
    c.judge_names_of.ensures)
