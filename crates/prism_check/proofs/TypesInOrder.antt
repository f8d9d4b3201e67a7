-- What is known of the formulas of a file, one after the other in an order in which each names only earlier ones.
use Rattle.std.specs.Prelude.{ℕ, zero, suc, ◌<◌, ◌+◌, List, [], ◌∷◌, ◌++◌, map, length, take, Bool, true, false, not, ◌&&◌, ◌||◌, ◌⊎◌, Option, Some, None, is_some, bytes_eq, if◌then◌else◌}
use Rattle.std.specs.List.{fold}
use Rattle.std.specs.Option.{option_map}
use Rattle.std.proofs.Common.{◌≡◌, refl, sym, ap, ap₂, ◌∙◌, inl, inr, subst, append_assoc, append-nil, get_or}
use Rattle.std.proofs.Math.Path.{fun_ext}
use Rattle.std.proofs.lemmas.Slice.Eq.{bytes_eq-Decides}
use Rattle.std.proofs.lemmas.List.Folds.{list_any-append}
use Rattle.std.proofs.lemmas.List.Sums.{fold-append}
use Rattle.op_trees.specs.Tree.{tree, AllNames}
use Rattle.op_trees.specs.Types.{Types, type_in, type_through, types_looked_up}
use Rattle.op_trees.specs.Seen.{FallsTo}
use Rattle.op_trees.specs.SeenLaws.{names_then}
use Rattle.op_trees.specs.Names.{some_name}
use Rattle.op_trees.specs.NameLaws.{some_agree_on}
use Rattle.op_trees.specs.TypeLaws.{type_agree_on}
use Rattle.process_core.specs.Ready.{Name}
use Rattle.prism_tree.specs.declared.syntax.PrismFormula.{PrismFormula}
use Rattle.prism_tree.specs.Operators.{prism_meaning}
use Rattle.prism_tree.specs.Syntax.{Expression, Formula, File, formula_of}
use Rattle.prism_flat.specs.Names.{formula_body}
use Rattle.prism_flat.specs.Order.{place_in, IsOrder, in_depth}
use Rattle.prism_flat.specs.WrittenOut.{lower, lowest}
use Rattle.prism_flat.specs.Places.{at_places, formula_names, stands, IsEarlier, IsListed, IsPlaceOrder, places_order}
use Rattle.prism_flat.proofs.Steps.{place_more}
use Rattle.prism_check.specs.declared.typing.Known.{Known}
use Rattle.prism_check.specs.Levels.{through, level}
use Rattle.prism_check.specs.TypeFaults.{variable_called, declared_types, types, is_variable}
use Rattle.prism_check.specs.Typing.{type_said, varies_said, known_by, with_known, nothing_known, known_after}

-- ---- names that agree on those of an expression
-- ---- at a depth above its rank a name has the type of its body, and a variable occurs in it where one does in its body
module _ (file : File) (order : List Name) (ordered : IsOrder file order) where
  abbrev Below : ℕ → Name → Type 0
  Below n x = FallsTo (formula_body file) (place_in order) n x

  module _ (ty : Types) where
    abbrev looked_up : ℕ → Types
    looked_up n = types_looked_up prism_meaning (formula_body file) n ty

    type_settles : (n : ℕ) → ((y : Name) → Below n y → looked_up n y ≡ looked_up (suc n) y) → (x : Name) (o : Option Expression) → formula_body file x ≡ o → Below (suc n) x →
        type_through prism_meaning o (looked_up n) (ty x) ≡ type_through prism_meaning o (looked_up (suc n)) (ty x)
    type_settles n ih x None e f = refl
    type_settles n ih x (Some b) e f =
        type_agree_on prism_meaning b (looked_up n) (looked_up (suc n)) (names_then (Below n) (λ y. looked_up n y ≡ looked_up (suc n) y) ih b (lower (formula_body file) (place_in order) ordered.falling n x b e f))

    type_settled : (n : ℕ) (x : Name) → Below n x → looked_up n x ≡ looked_up (suc n) x
    type_settled zero x f = ap (λ o. type_through prism_meaning o (looked_up zero) (ty x)) (sym (lowest (formula_body file) (place_in order) ordered.falling x (formula_body file x) refl f))
    type_settled (suc n) x f = type_settles n (type_settled n) x (formula_body file x) refl f

  module _ (is_such : Name → Bool) where
    abbrev levels : ℕ → Name → Bool
    levels n = level (formula_body file) is_such n

    level_settles : (n : ℕ) → ((y : Name) → Below n y → levels n y ≡ levels (suc n) y) → (x : Name) (o : Option Expression) → formula_body file x ≡ o → Below (suc n) x →
        through o (levels n) (is_such x) ≡ through o (levels (suc n)) (is_such x)
    level_settles n ih x None e f = refl
    level_settles n ih x (Some b) e f =
        some_agree_on (levels n) (levels (suc n)) b (names_then (Below n) (λ y. levels n y ≡ levels (suc n) y) ih b (lower (formula_body file) (place_in order) ordered.falling n x b e f))

    level_settled : (n : ℕ) (x : Name) → Below n x → levels n x ≡ levels (suc n) x
    level_settled zero x f = ap (λ o. through o (levels zero) (is_such x)) (sym (lowest (formula_body file) (place_in order) ordered.falling x (formula_body file x) refl f))
    level_settled (suc n) x f = level_settles n (level_settled n) x (formula_body file x) refl f

-- ---- so a table of formulas that are taken in order tells what holds of all names
abbrev pub varies : File → Name → Bool
varies file x = level (formula_body file) (is_variable file) (length file.formulas) x

abbrev pub whole_known : File → Expression → Known
whole_known file e = record { ty = type_in prism_meaning (types file) e; varies = some_name (varies file) e }

abbrev pub formula_known : File → Name → Option Known
formula_known file x = option_map (whole_known file) (formula_body file x)

module _ (file : File) (places : List ℕ) (places_ordered : IsPlaceOrder file places) (ty : Types) (is_such : Name → Bool)
    (typed : (x : Name) → ty x ≡ declared_types file x) (varied : (x : Name) → is_such x ≡ is_some (variable_called file x)) where
  abbrev order : List Name
  order = formula_names (at_places file.formulas places)

  ordered : IsOrder file order
  ordered = places_order file places places_ordered

  pub reads_type : (x : Name) (said : Option Known) → said ≡ formula_known file x → type_said said (ty x) ≡ types file x
  reads_type x said e =
      ap₂ type_said e (typed x)
      ∙ by_body (formula_body file x)
      ∙ sym (type_settled file order ordered (declared_types file) (length file.formulas) x (in_depth file order ordered x))
    where
      by_body : (o : Option Expression) → type_said (option_map (whole_known file) o) (declared_types file x) ≡ type_through prism_meaning o (types file) (declared_types file x)
      by_body None = refl
      by_body (Some b) = refl

  pub reads_varies : (x : Name) (said : Option Known) → said ≡ formula_known file x → varies_said said (is_such x) ≡ varies file x
  reads_varies x said e =
      ap₂ varies_said e (varied x)
      ∙ by_body (formula_body file x)
      ∙ sym (level_settled file order ordered (is_variable file) (length file.formulas) x (in_depth file order ordered x))
    where
      by_body : (o : Option Expression) → varies_said (option_map (whole_known file) o) (is_some (variable_called file x))
          ≡ through o (varies file) (not (is_some o) && is_some (variable_called file x))
      by_body None = refl
      by_body (Some b) = refl

  abbrev AreRight : List Name → (Name → Option Known) → Type 0
  AreRight earlier said = (x : Name) → IsEarlier file earlier x → said x ≡ formula_known file x

  with_one : (earlier : List Name) (said : Name → Option Known) (f : Formula) → AreRight earlier said →
      formula_body file f.name.name ≡ Some f.body → AllNames (IsEarlier file earlier) f.body → AreRight (earlier ++ f.name.name ∷ []) (with_known ty is_such said f)
  with_one earlier said f right own low x e = by_test (bytes_eq f.name.name x) refl (sooner e)
    where
      sooner : IsEarlier file (earlier ++ f.name.name ∷ []) x → ((stands earlier x || (bytes_eq f.name.name x || false)) ≡ true) ⊎ (formula_body file x ≡ None)
      sooner (inl s) = inl (sym (list_any-append (λ y. bytes_eq y x) earlier (f.name.name ∷ [])) ∙ s)
      sooner (inr none) = inr none

      before : (a : Bool) → (a || (false || false)) ≡ true → a ≡ true
      before true h = refl
      before false h = h

      same : known_by ty is_such said f.body ≡ whole_known file f.body
      same =
          ap₂ {C = Known} (λ t v. record { ty = t; varies = v })
          (type_agree_on prism_meaning f.body (λ y. type_said (said y) (ty y)) (types file)
          (names_then (IsEarlier file earlier) (λ y. type_said (said y) (ty y) ≡ types file y) (λ y k. reads_type y (said y) (right y k)) f.body low))
          (some_agree_on (λ y. varies_said (said y) (is_such y)) (varies file) f.body
          (names_then (IsEarlier file earlier) (λ y. varies_said (said y) (is_such y) ≡ varies file y) (λ y k. reads_varies y (said y) (right y k)) f.body low))

      by_test : (b : Bool) → bytes_eq f.name.name x ≡ b → ((stands earlier x || (b || false)) ≡ true) ⊎ (formula_body file x ≡ None) →
          (if b then Some (known_by ty is_such said f.body) else said x) ≡ formula_known file x
      by_test true t k = ap Some same ∙ ap (option_map (whole_known file)) (sym own ∙ ap (formula_body file) ((bytes_eq-Decides f.name.name x).0 t))
      by_test false t (inl s) = right x (inl (before (stands earlier x) s))
      by_test false t (inr none) = right x (inr none)

  right_after : (earlier : List Name) (said : Name → Option Known) (gs : List Formula) → IsListed file earlier gs → AreRight earlier said →
      AreRight (earlier ++ formula_names gs) (fold (with_known ty is_such) said gs)
  right_after earlier said [] l right = subst (λ (ns : List Name). AreRight ns said) (sym (append-nil earlier)) right
  right_after earlier said (f ∷ gs) l right =
      subst (λ (ns : List Name). AreRight ns (fold (with_known ty is_such) said (f ∷ gs))) (append_assoc earlier (f.name.name ∷ []) (formula_names gs))
      (right_after (earlier ++ f.name.name ∷ []) (with_known ty is_such said f) gs l.2 (with_one earlier said f right l.0 l.1))

  at_first : AreRight [] nothing_known
  at_first x (inl e) = cc
  at_first x (inr none) = ap (option_map (whole_known file)) (sym none)

  -- after all formulas all is known
  pub known_whole : (x : Name) → known_after ty is_such (at_places file.formulas places) x ≡ formula_known file x
  known_whole x = by_body (formula_body file x) refl
    where
      right : AreRight order (known_after ty is_such (at_places file.formulas places))
      right = right_after [] nothing_known (at_places file.formulas places) places_ordered.listed at_first

      by_body : (o : Option Expression) → formula_body file x ≡ o → known_after ty is_such (at_places file.formulas places) x ≡ formula_known file x
      by_body None e = right x (inr e)
      by_body (Some b) e = right x (inl (places_ordered.covers x b e))

-- ---- one formula more
pub known_more : (ty : Types) (is_such : Name → Bool) (fs : List PrismFormula) (places : List ℕ) (i : ℕ) (f : PrismFormula) (old new : Name → Option Known) (known : Known) →
    i < length places → get_or places i 0 < length fs → f ≡ get_or fs (get_or places i 0) f →
    ((x : Name) → old x ≡ known_after ty is_such (at_places (map formula_of fs) (take i places)) x) → known ≡ known_by ty is_such old (tree f.body) →
    ((x : Name) → new x ≡ (if bytes_eq f.name.name x then Some known else old x)) →
    (x : Name) → new x ≡ known_after ty is_such (at_places (map formula_of fs) (take (i + 1) places)) x
known_more ty is_such fs places i f old new known h w e so_far learned added x =
    let before = at_places (map formula_of fs) (take i places) in
    added x
    ∙ ap (λ k. if bytes_eq f.name.name x then Some k else old x) learned
    ∙ ap (λ (s : Name → Option Known). with_known ty is_such s (formula_of f) x) (fun_ext so_far)
    ∙ ap (λ (s : Name → Option Known). s x) (sym (fold-append (with_known ty is_such) nothing_known before (formula_of f ∷ [])))
    ∙ ap (λ l. known_after ty is_such l x) (sym (place_more fs places i f h w e))
