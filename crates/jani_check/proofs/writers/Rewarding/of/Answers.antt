use Rattle.std.specs.Prelude.{◌≡◌, ℕ, List, map}
use Rattle.std.specs.List.{list_any}
use Rattle.std.specs.Option.{option_map, option_or as or_else}
use Rattle.std.proofs.Common.{◌∙◌, ap, ap₂}
use Rattle.std.proofs.Math.Path.{fun_ext}
use Rattle.std.proofs.lemmas.Result.{IfOk-weaker}
use Rattle.jani_tree.specs.Syntax.{automaton_of, edge_of, var_of}
use Rattle.jani_check.specs.ProfileFaults.{rewards_with}
use Rattle.jani_check.specs.Rewarding.{edge_rewards, rewarded_in}
use Rattle.jani_check.specs.Scopes.{thing_under}
use Rattle.jani_check.specs.Things.{beside, var_called, var_thing}
use Rattle.jani_check.proofs.writers.Rewarding.of.Goals as goal

pub returns : goal.returns
returns c =
    let a = automaton_of c.args.a.now in
    let global = thing_under c.args.global.now in
    let own = thing_under c.in_ok-own.own in
    let things : (λ x. or_else (global x) (own x)) ≡ beside global a.variables =
    fun_ext (λ x. ap (or_else (global x)) (c.in_ok-own.ensures x ∙ ap (λ vs. option_map var_thing (var_called (map var_of vs) x)) c.as_slice.ensures)) in
    IfOk-weaker c.of_edges.result
    (λ r. (x : List ℕ) → rewarded_in r x ≡ list_any (edge_rewards (λ y. or_else (global y) (own y)) x) (map edge_of c.as_slice-2.result.now))
    (λ r. (x : List ℕ) → rewarded_in r x ≡ rewards_with global a x)
    (λ r h x. h x ∙ ap₂ (λ k es. list_any (edge_rewards k x) (map edge_of es)) things c.as_slice-2.ensures)
    c.of_edges.ensures
