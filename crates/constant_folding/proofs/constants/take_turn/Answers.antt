use Rattle.std.proofs.Common.{◌∙◌, Option, None, ap}
use Rattle.std.specs.Prelude.{unwrap_or, bytes_eq, if◌then◌else◌}
use Rattle.name_rules.specs.Names.{Name, under}
use Rattle.constant_folding.specs.declared.known.Fixed.{Fixed}
use Rattle.constant_folding.specs.Tables.{known_in}
use Rattle.constant_folding.proofs.KnownLaws.{entry_put}
use Rattle.constant_folding.proofs.constants.take_turn.Goals as goal

pub returns-clause-known : goal.returns-clause-known
returns-clause-known g c = λ x.
    let old = known_in c.args.table.now in
    ap (λ (f : Name → Option (Option Fixed)). unwrap_or (f x) None) c.in_ok-put.ensures
    ∙ entry_put (under c.args.table.now.constants) c.as_str.result.now x c.in_ok-known.known
    ∙ ap (λ n. if bytes_eq n x then c.in_ok-known.known else old x) c.as_str.ensures
    ∙ ap (λ v. if bytes_eq c.args.constant.now.name.now.name x then v else old x) c.in_ok-known.ensures
