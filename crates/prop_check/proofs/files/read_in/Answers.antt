use Rattle.std.specs.Prelude.{map}
use Rattle.std.proofs.Common.{◌∙◌, sym}
use Rattle.name_rules.proofs.Soonest.{soonest_none, soonest_some}
use Rattle.prop_grammar.specs.Syntax.{written_of}
use Rattle.prop_trees.specs.PrismFaults.{faults}
use Rattle.prop_check.proofs.Reading.{memory_written}
use Rattle.prop_check.proofs.files.read_in.Goals as goal

pub returns-in_err-fault : goal.returns-in_err-fault
returns-in_err-fault c =
    memory_written c.args.scope.now.file (map written_of c.args.all.now) c.from_residual.result _ c.from_residual.ensures.0 c.from_residual.ensures.1

pub returns-in-Some : goal.returns-in-Some
returns-in-Some c =
    soonest_some (faults c.args.scope.now.file (map written_of c.args.all.now)) c.in-Some.fault (sym c.in_ok-fault.ensures ∙ c.in-Some.is)

pub returns-in_err-list-in-None : goal.returns-in_err-list-in-None
returns-in_err-list-in-None c =
    memory_written c.args.scope.now.file (map written_of c.args.all.now) c.from_residual-in_err-list-in-None.result _
    c.from_residual-in_err-list-in-None.ensures.0 c.from_residual-in_err-list-in-None.ensures.1

pub returns-in_ok-list-in-None : goal.returns-in_ok-list-in-None
returns-in_ok-list-in-None c = record {
  sound = soonest_none (faults c.args.scope.now.file (map written_of c.args.all.now)) (sym c.in_ok-fault.ensures ∙ c.in-None.is);
  are = c.in_ok-list-in-None.ensures;
}
