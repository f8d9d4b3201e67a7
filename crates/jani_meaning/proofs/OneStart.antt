-- A file that leaves one state alone to begin in has no initial condition.
use Rattle.std.specs.Prelude.{◌≡◌, ℕ, ◌+◌, List, [], ◌∷◌, Bool, true, false, not, ◌||◌, Option, Some, None, is_none, is_some, unwrap_or, if◌then◌else◌}
use Rattle.std.specs.List.{find, filter, list_any, AllByRecursion as Each}
use Rattle.std.proofs.Common.{refl, ap, ap₂}
use Rattle.basics.specs.Each.{each_any, each_found, each_join, each_then}
use Rattle.basics.specs.Options.{IfAny as OfSome}
use Rattle.bridge_io.specs.declared.reason.Named.{Named}
use Rattle.op_trees.specs.Names.{is_called}
use Rattle.process_core.specs.Instance.{numbered}
use Rattle.jani_tree.specs.Syntax.{Automaton, Expression, File, Var}
use Rattle.jani_tree.specs.Form.{BeginsOnce, HasOne, HasOneStart, IsGiven, StartsOnce}
use Rattle.jani_meaning.specs.Loops.{with_loops}
use Rattle.jani_meaning.specs.Elements.{automaton_called, element_automaton, elements, has_several_starts, is_lasting, is_several, nothing_called, Owned, owned_by, variables}
use Rattle.jani_meaning.specs.Scene.{begins_anywhere, has_condition}

one_only : (ns : List Named) → HasOne ns → is_several ns ≡ false
one_only [] h = absurd h
one_only (n ∷ []) h = refl
one_only (n ∷ m ∷ ns) h = absurd h

given_start : (o : Option Expression) → IsGiven o → is_none o ≡ false
given_start None h = absurd h
given_start (Some e) h = refl

abbrev Once : Automaton → Type 0
Once a = (has_several_starts a ≡ false) × Each StartsOnce a.variables

-- ---- elements
once_called : (file : File) → HasOneStart file → (n : Named) → Once (automaton_called file n)
once_called file h n =
    by_found (find (λ a. is_called n.name a.name) file.automata)
    (each_found Once (λ a. is_called n.name a.name) file.automata (each_then BeginsOnce Once (λ a b. (one_only a.initial b.initial, b.variables)) file.automata h.automata))
  where
    by_found : (o : Option Automaton) → OfSome Once o → Once (unwrap_or o (nothing_called n))
    by_found None k = (refl, tt)
    by_found (Some a) k = k

with_any : (xs : List Named) (a : Automaton) → Once a → Once (with_loops xs a)
with_any [] a h = h
with_any (x ∷ xs) a h = h

none_several : (as_ : List Automaton) → Each Once as_ → list_any has_several_starts as_ ≡ false
none_several [] h = refl
none_several (a ∷ as_) h = ap₂ (λ a b. a || b) h.0.0 (none_several as_ h.1)

-- ---- variables
abbrev OwnedOnce : Owned → Type 0
OwnedOnce o = StartsOnce o.var

owned_once : (owner : Option ℕ) (xs : List Var) → Each StartsOnce xs → Each OwnedOnce (owned_by owner xs)
owned_once owner [] h = tt
owned_once owner (x ∷ xs) h = (h.0, owned_once owner xs h.1)

own_once : (i : ℕ) (as_ : List Automaton) → Each Once as_ → Each OwnedOnce (numbered (λ i a. owned_by (Some i) a.variables) i as_)
own_once i [] h = tt
own_once i (a ∷ as_) h =
    each_join OwnedOnce (owned_by (Some i) a.variables) (numbered (λ i a. owned_by (Some i) a.variables) (i + 1) as_)
    (owned_once (Some i) a.variables h.0.1) (own_once (i + 1) as_ h.1)

none_anywhere : (os : List Owned) → Each OwnedOnce os → list_any begins_anywhere (filter is_lasting os) ≡ false
none_anywhere [] h = refl
none_anywhere (o ∷ os) h = by_kind o.var.transient refl (none_anywhere os h.1)
  where
    by_kind : (t : Bool) → o.var.transient ≡ t → list_any begins_anywhere (filter is_lasting os) ≡ false → list_any begins_anywhere (if not t then o ∷ filter is_lasting os else filter is_lasting os) ≡ false
    by_kind true e k = k
    by_kind false e k = ap₂ (λ a b. a || b) (given_start o.var.start (h.0 e)) k

pub one_start : (file : File) → HasOneStart file → has_condition file ≡ false
one_start file h =
    let once : Each Once (elements file) = each_any Once (element_automaton file) (λ e. with_any e.enable (automaton_called file e.name) (once_called file h e.name)) file.elements in
    ap₂ (λ a b. a || b) (ap is_some h.restrict)
    (ap₂ (λ a b. a || b) (none_several (elements file) once)
    (none_anywhere (variables file)
    (each_join OwnedOnce (owned_by None file.variables) (numbered (λ i a. owned_by (Some i) a.variables) 0 (elements file)) (owned_once None file.variables h.variables) (own_once 0 (elements file) once))))
