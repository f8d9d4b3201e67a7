-- No variable belongs to an element that isn't there.
use Rattle.std.specs.Prelude.{◌≡◌, ℕ, ◌+◌, ◌≤◌, List, [], ◌∷◌, length, Bool, true, false, ◌&&◌, ◌||◌, Option, Some, None, if◌then◌else◌}
use Rattle.std.specs.List.{filter, list_any, position}
use Rattle.std.proofs.Common.{refl, ap₂, ◌∙◌, arith}
use Rattle.std.proofs.lemmas.Bool.{ne_eqb, or_parts}
use Rattle.std.proofs.lemmas.List.Folds.{list_any-append}
use Rattle.basics.specs.Members.{is_some-position}
use Rattle.basics.specs.Options.{none_of}
use Rattle.process_core.specs.Instance.{numbered}
use Rattle.process_core.specs.Ready.{Name}
use Rattle.jani_tree.specs.Syntax.{Automaton, File, Var, element_names}
use Rattle.op_trees.specs.Names.{is_called}
use Rattle.jani_meaning.specs.Elements.{elements, is_lasting, is_own, is_owner, lasting, owned_by, variables}
use Rattle.jani_meaning.specs.LoopLaws.{element_count}

pub none_left : {A : Type 0} (p q : A → Bool) (l : List A) → list_any p l ≡ false → list_any p (filter q l) ≡ false
none_left p q [] h = refl
none_left p q (e ∷ l) h = by_test (q e) (or_parts (p e) (list_any p l) h).0 (none_left p q l (or_parts (p e) (list_any p l) h).1)
  where
    by_test : (b : Bool) → p e ≡ false → list_any p (filter q l) ≡ false → list_any p (if b then e ∷ filter q l else filter q l) ≡ false
    by_test true g k = ap₂ (λ a c. a || c) g k
    by_test false g k = k

none_own : (n : ℕ) (x : Name) (owner : Option ℕ) → is_owner n owner ≡ false → (vars : List Var) → list_any (is_own n x) (owned_by owner vars) ≡ false
none_own n x owner h [] = refl
none_own n x owner h (y ∷ ys) = ap₂ (λ a b. (a && is_called x y.name) || b) h (none_own n x owner h ys)

none_numbered : (n : ℕ) (x : Name) (i : ℕ) (as_ : List Automaton) → i + length as_ ≤ n → list_any (is_own n x) (numbered (λ i a. owned_by (Some i) a.variables) i as_) ≡ false
none_numbered n x i [] h = refl
none_numbered n x i (a ∷ as_) h =
    list_any-append (is_own n x) (owned_by (Some i) a.variables) (numbered (λ i a. owned_by (Some i) a.variables) (i + 1) as_)
    ∙ ap₂ (λ a b. a || b) (none_own n x (Some i) (ne_eqb n i (λ e. omega (arith, h, e))) a.variables) (none_numbered n x (i + 1) as_ (omega (arith, h)))

pub unowned : (file : File) (x : Name) → position (is_own (length (element_names file)) x) (lasting file) ≡ None
unowned file x =
    let n = length (element_names file) in
    none_of (position (is_own n x) (lasting file))
    (is_some-position (is_own n x) (lasting file)
    ∙ none_left (is_own n x) is_lasting (variables file)
    (list_any-append (is_own n x) (owned_by None file.variables) (numbered (λ i a. owned_by (Some i) a.variables) 0 (elements file))
    ∙ ap₂ (λ a b. a || b) (none_own n x None refl file.variables)
    (none_numbered n x 0 (elements file) (let e = element_count file in omega (arith, e)))))
