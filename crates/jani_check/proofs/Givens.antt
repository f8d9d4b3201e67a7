-- What locations give values to, automaton by automaton.
use Rattle.std.specs.Prelude.{ℕ, ◌<◌, ◌+◌, List, ◌∷◌, map, length, drop, Bool, ◌||◌, Option}
use Rattle.std.specs.List.{flat_map}
use Rattle.std.proofs.Common.{◌≡◌, sym, ap, ap₂, ◌∙◌, get_or}
use Rattle.std.proofs.lemmas.List.{at_drop_more}
use Rattle.bridge_io.specs.declared.reason.Named.{Named}
use Rattle.bridge_io.specs.declared.reason.Fault.{Fault}
use Rattle.name_rules.specs.Least.{soonest}
use Rattle.name_rules.proofs.Soonest.{soonest_append}
use Rattle.jani_tree.specs.declared.syntax.JaniAutomaton.{JaniAutomaton}
use Rattle.jani_tree.specs.Syntax.{automaton_of}
use Rattle.name_rules.specs.Names.{Name, is_among}
use Rattle.jani_check.specs.declared.things.Thing.{Thing}
use Rattle.jani_check.specs.ProfileFaults.{given_again, given_after, given_by}

pub one_given : (global : Name → Option Thing) (earlier new : Name → Bool) (automata : List JaniAutomaton) (i : ℕ) (a : JaniAutomaton) (given : List Named) (best next whole : Option Fault) →
    i < length automata → a ≡ get_or automata i a → given ≡ given_by (automaton_of a) → next ≡ soonest best (flat_map (given_again global earlier) given) →
    new ≡ (λ x. earlier x || is_among given x) → soonest best (given_after global earlier (map automaton_of (drop i automata))) ≡ whole →
    soonest next (given_after global new (map automaton_of (drop (i + 1) automata))) ≡ whole
one_given global earlier new automata i a given best next whole h is gives judged more so_far =
    let rest = map automaton_of (drop (i + 1) automata) in
    let after = given_after global (λ x. earlier x || is_among (given_by (automaton_of a)) x) rest in
    ap₂ (λ b k. soonest b (given_after global k rest)) (judged ∙ ap (λ ns. soonest best (flat_map (given_again global earlier) ns)) gives)
    (more ∙ ap (λ ns x. earlier x || is_among ns x) gives)
    ∙ sym (soonest_append best (flat_map (given_again global earlier) (given_by (automaton_of a))) after)
    ∙ sym (at_drop_more (λ ys. soonest best (given_after global earlier (map automaton_of ys))) automata i a h
    ∙ ap (λ y. soonest best (given_after global earlier (map automaton_of (y ∷ drop (i + 1) automata)))) (sym is))
    ∙ so_far
