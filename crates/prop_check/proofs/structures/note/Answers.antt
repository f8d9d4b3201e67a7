use Rattle.std.specs.Prelude.{bytes_eq, Some, None, if◌then◌else◌, ℕ, List}
use Rattle.std.specs.List.{list_any}
use Rattle.std.specs.Option.{option_or}
use Rattle.std.proofs.Common.{◌≡◌, ◌∙◌, ap, sym}
use Rattle.std.proofs.Math.Bool.{or-false}
use Rattle.std.proofs.lemmas.Result.{on_ok_weaker}
use Rattle.basics.specs.Options.{if_some}
use Rattle.op_trees.specs.Names.{is_called}
use Rattle.name_rules.specs.Names.{under}
use Rattle.name_rules.proofs.Maps.{at, none_after}
use Rattle.prism_tree.specs.Syntax.{rewards_of}
use Rattle.prop_trees.specs.PrismFaults.{is_titled}
use Rattle.prop_check.proofs.structures.note.Goals as goal

pub returns-in-Some : goal.returns-in-Some
returns-in-Some c =
    let old = under c.args.places.now in
    let place = c.args.place in
    let titled : (x : List ℕ) → bytes_eq c.as_str.result.now x ≡ is_titled x (rewards_of c.args.rewards.now) = λ x.
    ap (λ (m : List ℕ). bytes_eq m x) c.as_str.ensures
    ∙ sym (ap (λ o. list_any (is_called x) (if_some o)) c.in-Some.is ∙ or-false (bytes_eq c.in-Some.name.name x)) in
    on_ok_weaker c.put_first.result (λ h. λ x. at h x ∙ ap (λ b. option_or (old x) (if b then Some place else None)) (titled x)) c.put_first.ensures

pub returns-in-None : goal.returns-in-None
returns-in-None c = λ x.
    let old = under c.args.places.now x in
    none_after old ∙ ap (λ o. option_or old (if list_any (is_called x) (if_some o) then Some c.args.place else None)) (sym c.in-None.is)
