use Rattle.std.specs.Prelude.{◌≡◌, [], ◌∷◌, map}
use Rattle.std.specs.List.{flat_map}
use Rattle.std.proofs.Common.{◌∙◌, ap, refl}
use Rattle.std.proofs.lemmas.Result.{IfOk-weaker}
use Rattle.bridge_io.specs.declared.reason.Reason.TheVariants.{WrittenTwice}
use Rattle.name_rules.specs.Least.{soonest}
use Rattle.jani_tree.specs.Syntax.{write_of}
use Rattle.name_rules.specs.Doubled.{doubled}
use Rattle.jani_check.specs.TypeFaults.{repeated}
use Rattle.jani_check.proofs.Few.{few_writes}
use Rattle.jani_check.proofs.Parts.{each_name}
use Rattle.jani_check.proofs.writes.judge_writes.Goals as goal

pub returns-then-writes-lt2 : goal.returns-then-writes-lt2
returns-then-writes-lt2 c = few_writes c.args.writes.now c.args.before c.if-writes-lt2.true

pub returns : goal.returns
returns c =
    IfOk-weaker c.judge_names_of.result
    (λ best. best ≡ soonest c.args.before (doubled WrittenTwice (flat_map (λ w. w.target ∷ []) c.args.writes.now)))
    (λ best. best ≡ soonest c.args.before (repeated (map write_of c.args.writes.now)))
    (λ best h. h ∙ ap (λ ns. soonest c.args.before (doubled WrittenTwice ns)) (each_name (λ w. w.target) write_of c.args.writes.now c.args.writes.now refl))
    c.judge_names_of.ensures
