use Rattle.std.specs.Prelude.{map, IfOk}
use Rattle.std.proofs.Common.{◌≡◌, ◌∙◌, sym, ap, subst}
use Rattle.bridge_io.specs.declared.reason.Reason.TheVariants.{WrittenTwice}
use Rattle.process_core.specs.Product.{map-map}
use Rattle.prism_tree.specs.Syntax.{write_of}
use Rattle.name_rules.specs.Least.{soonest}
use Rattle.name_rules.specs.Doubled.{doubled}
use Rattle.prism_check.specs.Typing.{called_by, moved_name, read_in}
use Rattle.name_rules.specs.Names.{named_by}
use Rattle.prism_check.proofs.TypesPlaced.{doubled_at}
use Rattle.prism_check.proofs.writes.judge_update.Goals as goal

pub returns : goal.returns
returns c =
    let ws = c.args.branch.now.writes in
    let place = c.args.place in
    let called = called_by (read_in c.args.names.now) in
    subst (λ fs. IfOk c.judge_doubled.result (λ best. best ≡ soonest c.args.before fs))
    (ap (doubled WrittenTwice)
    (ap (map named_by) c.deref.ensures.value ∙ c.in_ok-written.ensures ∙ ap (map (λ w. moved_name place (called w.name))) c.as_slice.ensures
    ∙ sym (map-map (moved_name place) (λ w. called w.name) ws)
    ∙ ap (map (moved_name place)) (sym (map-map (λ w. called w.name) write_of ws)))
    ∙ sym (doubled_at place WrittenTwice (map (λ w. called w.name) (map write_of ws))))
    c.judge_doubled.ensures
