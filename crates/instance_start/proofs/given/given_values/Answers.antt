use Rattle.std.proofs.Common.{◌∙◌, ◌+◌, sym, ap, drop, Some, None}
use Rattle.std.specs.Prelude.{bytes_eq, if◌then◌else◌}
use Rattle.std.specs.Option.{option_or}
use Rattle.std.proofs.Math.Path.{fun_ext}
use Rattle.std.proofs.lemmas.List.{at_drop_all}
use Rattle.basics.specs.Lists.{drop_item}
use Rattle.name_rules.specs.Names.{under}
use Rattle.instance_start.specs.Given.{given_by}
use Rattle.instance_start.proofs.Called.{only_seen, put_or}
use Rattle.instance_start.proofs.given.given_values.Goals as goal

pub loop-one-init : goal.loop-one-init
loop-one-init c = λ x. ap (λ f. option_or (f x) (given_by c.args.given.now x)) c.new-values.ensures

pub loop-one-preserved : goal.loop-one-preserved
loop-one-preserved c = λ x.
    let k = c.loop-one.one-index in
    let one = c.one-item.result in
    let rest = given_by (drop (k + 1) c.args.given.now) x in
    ap (λ f. option_or (f x) rest) c.in_ok-put_first.ensures
    ∙ ap (λ n. option_or (option_or (under c.loop-one.values x) (if bytes_eq n x then Some one.value else None)) rest) c.as_str.ensures
    ∙ put_or (under c.loop-one.values x) (bytes_eq one.name x) one.value rest
    ∙ ap (λ l. option_or (under c.loop-one.values x) (given_by l x)) (sym (drop_item c.args.given.now k one c.loop-one-test.true c.one-item.is))
    ∙ c.loop-one.invariant x

pub returns : goal.returns
returns c = fun_ext (λ x.
    only_seen (under c.loop-one.values x)
    ∙ sym (at_drop_all (λ l. option_or (under c.loop-one.values x) (given_by l x)) c.args.given.now c.loop-one.one-index c.loop-one-test.false)
    ∙ c.loop-one.invariant x)
