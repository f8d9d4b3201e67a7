use Rattle.std.proofs.Common.{◌∙◌, ◌+◌, sym, ap, drop, map, Some, None}
use Rattle.std.specs.Prelude.{bytes_eq, if◌then◌else◌}
use Rattle.std.specs.Option.{option_map, option_or}
use Rattle.std.proofs.lemmas.List.{at_drop_all}
use Rattle.basics.specs.Lists.{drop_item}
use Rattle.gathering.proofs.Found.{first_more}
use Rattle.name_rules.specs.Names.{under}
use Rattle.instance_start.specs.Columns.{constant_of}
use Rattle.instance_start.specs.Given.{constant_called}
use Rattle.instance_start.proofs.Called.{only_seen}
use Rattle.instance_start.proofs.given.constants_called.Goals as goal

pub loop-constant-init : goal.loop-constant-init
loop-constant-init c = λ x. ap (λ f. option_or (option_map constant_of (f x)) (constant_called (map constant_of c.args.constants.now) x)) c.new-called.ensures

pub loop-constant-preserved : goal.loop-constant-preserved
loop-constant-preserved c = λ x.
    let k = c.loop-constant.constant-index in
    let one = c.constant-item.result in
    let rest = constant_called (map constant_of (drop (k + 1) c.args.constants.now)) x in
    let old = under c.loop-constant.called x in
    ap (λ f. option_or (option_map constant_of (f x)) rest) c.in_ok-put_first.ensures
    ∙ ap (λ n. option_or (option_map constant_of (option_or old (if bytes_eq n x then Some one else None))) rest) c.as_str.ensures
    ∙ first_more constant_of old (bytes_eq one.name.now x) one rest
    ∙ ap (λ l. option_or (option_map constant_of old) (constant_called (map constant_of l) x)) (sym (drop_item c.args.constants.now k one c.loop-constant-test.true c.constant-item.is))
    ∙ c.loop-constant.invariant x

pub returns : goal.returns
returns c = λ x.
    let seen = option_map constant_of (under c.loop-constant.called x) in
    only_seen seen
    ∙ sym (at_drop_all (λ l. option_or seen (constant_called (map constant_of l) x)) c.args.constants.now c.loop-constant.constant-index c.loop-constant-test.false)
    ∙ c.loop-constant.invariant x
