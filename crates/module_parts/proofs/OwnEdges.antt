-- The edges of an element are its own and then its loops, and loops assign nothing.
use Rattle.std.proofs.Common.{◌≡◌, List, [], ◌∷◌, ◌++◌, map, refl, ap, ap₂, ◌∙◌}
use Rattle.std.specs.Prelude.{Bool, false, ◌||◌}
use Rattle.std.specs.List.{list_any}
use Rattle.std.proofs.lemmas.List.Folds.{list_any-append}
use Rattle.std.proofs.Math.Bool.{or-false}
use Rattle.bridge_io.specs.declared.reason.Named.{Named}
use Rattle.jani_tree.specs.Syntax.{Write, Location, Automaton, automaton_of, edge_of}
use Rattle.jani_meaning.specs.Loops.{loop_at, loops}
use Rattle.jani_meaning.specs.LoopLaws.{edges_are}
use Rattle.jani_loops.specs.declared.accepting.ElementAutomaton.{ElementAutomaton}
use Rattle.jani_loops.specs.Elements.{element_view}
use Rattle.edge_tables.specs.Elements.{some_write}

no_write : (p : Write → Bool) (xs : List Named) (a : Automaton) → list_any (some_write p) (loops xs a) ≡ false
no_write p [] a = refl
no_write p (x ∷ xs) a =
    list_any-append (some_write p) (map (loop_at a x) a.locations) (loops xs a)
    ∙ ap₂ (λ b c. b || c) (at_each a.locations) (no_write p xs a)
  where
    at_each : (ls : List Location) → list_any (some_write p) (map (loop_at a x) ls) ≡ false
    at_each [] = refl
    at_each (l ∷ ls) = at_each ls

-- what some edge of the element assigns, some edge of its own does
pub own_writes : (p : Write → Bool) (e : ElementAutomaton) → list_any (some_write p) (element_view e).edges ≡ list_any (some_write p) (map edge_of e.automaton.now.edges)
own_writes p e =
    let a = automaton_of e.automaton.now in
    ap (list_any (some_write p)) (edges_are e.accepts.now a)
    ∙ list_any-append (some_write p) a.edges (loops e.accepts.now a)
    ∙ ap (λ b. list_any (some_write p) a.edges || b) (no_write p e.accepts.now a)
    ∙ or-false (list_any (some_write p) a.edges)
