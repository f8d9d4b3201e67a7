-- Actions by the places of their targets, and edges at their places.
use Rattle.std.proofs.Common.{◌≡◌, ℕ, suc, ◌+◌, List, [], ◌∷◌, ◌++◌, map, length, cond, refl, sym, ap, ap₂, ◌∙◌, arith}
use Rattle.std.specs.Prelude.{Bool, true, false, slice_get}
use Rattle.std.specs.List.{filter, zip}
use Rattle.process_core.specs.Ready.{Name}
use Rattle.process_core.specs.Instance.{numbered, only_if}
use Rattle.name_table.specs.declared.entry.Entry.{Entry}
use Rattle.name_table.specs.PrismAsks.{name_at}
use Rattle.name_table.proofs.EntryLemmas.{named_at}
use Rattle.jani_tree.specs.Syntax.{Edge}
use Rattle.edge_tables.specs.Elements.{Element, Placed}
use Rattle.edge_tables.specs.Targets.{Target}
use Rattle.edge_tables.specs.Modules.{Action}

-- a target and its entry as an action
abbrev pub action_with : Target × Entry → Action
action_with p = record { target = p.0; name = p.1.name }

pub later : (all es : List Entry) (e : Entry) (k : ℕ) → ((i : ℕ) → slice_get all (k + i) ≡ slice_get (e ∷ es) i) → (i : ℕ) → slice_get all ((k + 1) + i) ≡ slice_get es i
later all es e k h i = let n : (k + 1) + i ≡ k + suc i = omega arith in ap (slice_get all) n ∙ h (suc i)

-- those of the actions that pass a test, by the places of their targets
pub by_places : {Z : Type 0} (g : Name → Z) (q : Target → Bool) (all : List Entry) (k : ℕ) (ts : List Target) (es : List Entry) → length es ≡ length ts →
    ((i : ℕ) → slice_get all (k + i) ≡ slice_get es i) →
    map (λ t. g t.name) (filter (λ t. q t.target) (map action_with (zip ts es))) ≡ map (λ i. g (name_at all i)) (numbered (λ i t. only_if (q t) i) k ts)
by_places g q all k [] es h at = refl
by_places g q all k (t ∷ ts) [] h at = absurd (omega (arith, h))
by_places {Z = Z} g q all k (t ∷ ts) (e ∷ es) h at =
    by_test (q t) (by_places g q all (k + 1) ts es (omega (arith, h)) (later all es e k at))
  where
    by_test : (b : Bool) →
        map (λ t. g t.name) (filter (λ t. q t.target) (map action_with (zip ts es))) ≡ map (λ i. g (name_at all i)) (numbered (λ i t. only_if (q t) i) (k + 1) ts) →
        map (λ t. g t.name) (cond b (action_with (t, e) ∷ filter (λ t. q t.target) (map action_with (zip ts es))) (filter (λ t. q t.target) (map action_with (zip ts es))))
        ≡ map (λ i. g (name_at all i)) (only_if b k ++ numbered (λ i t. only_if (q t) i) (k + 1) ts)
    by_test true e' = ap₂ {B = List Z} (λ x l. g x ∷ l) (sym (named_at all es e k at)) e'
    by_test false e' = e'

pub whole_list : (es : List Entry) (i : ℕ) → slice_get es (0 + i) ≡ slice_get es i
whole_list es i = let n : 0 + i ≡ i = omega arith in ap (slice_get es) n

-- ---- the edges of an element
abbrev pub placed_with : Element → ℕ → Edge → Placed
placed_with el i e = record { element = el; number = i; edge = e }
