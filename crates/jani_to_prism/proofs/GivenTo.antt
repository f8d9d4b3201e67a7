-- What the table of given values has for a variable is what locations give to it.
use Rattle.std.proofs.Common.{◌≡◌, ◌<◌, ℕ, suc, zero, ◌+◌, List, [], ◌∷◌, ◌++◌, map, refl, sym, ap, ap₂, ◌∙◌, append-nil, arith, tests, eq-eqb}
use Rattle.std.specs.Prelude.{Bool, true, false, Option, Some, None, nat_eq, slice_get, if◌then◌else◌}
use Rattle.std.specs.List.{flat_map, AllZip}
use Rattle.process_core.specs.Ready.{Name}
use Rattle.jani_tree.specs.Syntax.{Automaton, File}
use Rattle.jani_meaning.specs.Elements as jani
use Rattle.jani_meaning.specs.Elements.{Owned}
use Rattle.process_core.specs.Instance.{numbered}
use Rattle.prism_targets.specs.Elements.{Element, elements, may_use}
use Rattle.prism_targets.specs.Marks.{Given, given_by, given_to}
use Rattle.jani_to_prism.specs.declared.given.Given.{Given as CodeGiven}
use Rattle.jani_to_prism.specs.declared.given.GivenTable.{GivenTable}
use Rattle.gathering.specs.declared.name_lists.NameLists.{NameLists}
use Rattle.prism_modules.specs.Code.{element_with}
use Rattle.jani_to_prism.specs.Given.{list_at, given_of, given_in, lists_in, GivesOf, AreGiven}

-- what an element gives, if there is one
abbrev pub given_at : Option Element → Name → List Given
given_at None x = []
given_at (Some el) x = given_by x el

one_of : (ts : List (NameLists CodeGiven)) (els : List Element) (k : ℕ) (x : Name) → AllZip GivesOf ts els → map given_of (list_at (slice_get ts k) x) ≡ given_at (slice_get els k) x
one_of [] [] k x h = refl
one_of [] (el ∷ els) k x h = absurd h
one_of (t ∷ ts) [] k x h = absurd h
one_of (t ∷ ts) (el ∷ els) zero x h = h.0 x
one_of (t ∷ ts) (el ∷ els) (suc k) x h = one_of ts els k x h.1

module _ (x : Name) where
  -- none of the later elements is the owner
  none_later : (k n : ℕ) (autos : List Automaton) → k < n → flat_map (λ el. if may_use el.number (Some k) then given_by x el else []) (numbered element_with n autos) ≡ []
  none_later k n [] h = refl
  none_later k n (a ∷ autos) h =
      ap₂ (λ (b : Bool) l. (if b then given_by x (record { number = n; automaton = a }) else []) ++ l) apart (none_later k (n + 1) autos (omega (arith, h)))
    where
      apart : nat_eq n k ≡ false
      apart = grind (arith, tests)

  -- the owner alone gives values
  owner_alone : (j n k : ℕ) (autos : List Automaton) → k ≡ n + j →
      flat_map (λ el. if may_use el.number (Some k) then given_by x el else []) (numbered element_with n autos) ≡ given_at (slice_get (numbered element_with n autos) j) x
  owner_alone j n k [] e = refl
  owner_alone zero n k (a ∷ autos) e =
      ap₂ (λ (b : Bool) l. (if b then given_by x (record { number = n; automaton = a }) else []) ++ l) same (none_later k (n + 1) autos (omega (arith, e)))
      ∙ append-nil (given_by x (record { number = n; automaton = a }))
    where
      same : nat_eq n k ≡ true
      same = eq-eqb n k (omega (arith, e))
  owner_alone (suc j) n k (a ∷ autos) e =
      ap (λ (b : Bool). (if b then given_by x (record { number = n; automaton = a }) else []) ++ flat_map (λ el. if may_use el.number (Some k) then given_by x el else []) (numbered element_with (n + 1) autos)) apart
      ∙ owner_alone j (n + 1) k autos (omega (arith, e))
    where
      apart : nat_eq n k ≡ false
      apart = grind (arith, tests)

pub given_is : (t : GivenTable) (file : File) (o : Owned) → AreGiven t (elements file) → map given_of (given_in t o) ≡ given_to file o
given_is t file o are = by_owner o.owner
  where
    by_owner : (k : Option ℕ) → map given_of (list_at (lists_in t k) o.var.name.name) ≡ flat_map (λ el. if may_use el.number k then given_by o.var.name.name el else []) (elements file)
    by_owner None = are.all_are o.var.name.name
    by_owner (Some k) =
        one_of t.own.items (elements file) k o.var.name.name are.own_are
        ∙ sym (owner_alone o.var.name.name k 0 k (jani.elements file) (omega arith))
