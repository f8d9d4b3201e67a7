-- Where no name stands twice, each constant is the first of its name, and what comes later has other names.
use Rattle.std.specs.Prelude.{◌≡◌, max, List, [], ◌∷◌, ◌++◌, map, Bool, true, false, ◌||◌, Some, bytes_eq, if◌then◌else◌}
use Rattle.std.specs.List.{flat_map, list_any, AllByRecursion as Each}
use Rattle.std.proofs.Common.{refl, sym, ap, ap₂, ◌∙◌}
use Rattle.std.proofs.lemmas.Slice.Eq.{bytes_eq-Decides}
use Rattle.std.proofs.lemmas.Bool.{or_right}
use Rattle.basics.specs.Texts.{bytes_eq-self}
use Rattle.basics.specs.Lists.{append_left, append_parts, append_right}
use Rattle.basics.specs.Each.{each_none, each_then, each_with, empty_each, map_each}
use Rattle.bridge_io.specs.declared.reason.Named.{Named}
use Rattle.bridge_io.specs.declared.reason.Reason.{Reason}
use Rattle.op_trees.specs.Names.{is_called}
use Rattle.name_rules.specs.Doubled.{clash, doubled_after, doubled}
use Rattle.name_rules.proofs.Plain.{no_fault}
use Rattle.process_core.specs.Ready.{Name}
use Rattle.constant_folding.specs.Constants.{AnyConst, called}

pub flipped : (x y : Name) → bytes_eq x y ≡ false → bytes_eq y x ≡ false
flipped x y h = by (bytes_eq y x) refl
  where
    by : (b : Bool) → bytes_eq y x ≡ b → b ≡ false
    by true e =
        let same : y ≡ x = (bytes_eq-Decides y x).0 e in
        absurd (let both : true ≡ false = sym (bytes_eq-self x) ∙ ap (λ z. bytes_eq x z) (sym same) ∙ h in cc)
    by false e = refl

or_turned : (a b c : Bool) → (a || (b || c)) ≡ true → ((b || a) || c) ≡ true
or_turned true true c h = refl
or_turned true false c h = refl
or_turned false true c h = refl
or_turned false false c h = h

or_none : (a : Bool) → (a || false) ≡ true → a ≡ true
or_none true h = refl
or_none false h = h

module _ (r : Reason) where
  other : (e : List Named) (n : Named) (x : Name) → flat_map (clash r n) e ≡ [] → list_any (is_called x) e ≡ true → bytes_eq x n.name ≡ false
  other e n x h k = by (bytes_eq x n.name) refl
    where
      none : list_any (λ m. bytes_eq m.name n.name) e ≡ false
      none =
          each_none (λ m. bytes_eq m.name n.name) e
          (each_then (λ m. clash r n m ≡ []) (λ m. bytes_eq m.name n.name ≡ false) (λ m c. no_fault (bytes_eq m.name n.name) (max m.at n.at) r c) e (empty_each (clash r n) e h))

      by : (b : Bool) → bytes_eq x n.name ≡ b → b ≡ false
      by true q = absurd (let both : true ≡ false = sym k ∙ ap (λ y. list_any (is_called y) e) ((bytes_eq-Decides x n.name).0 q) ∙ none in cc)
      by false q = refl

  -- names that come after one of this name differ from it
  pub apart_from : (e ns : List Named) → doubled_after r e ns ≡ [] → (x : Name) → list_any (is_called x) e ≡ true → Each (λ m. bytes_eq x m.name ≡ false) ns
  apart_from e [] h x k = tt
  apart_from e (n ∷ ns) h x k =
      let parts = append_parts (flat_map (clash r n) e) (doubled_after r (n ∷ e) ns) h in
      (other e n x parts.0 k, apart_from (n ∷ e) ns parts.1 x (or_right (is_called x n) (list_any (is_called x) e) k))

  later_apart : (e ns ms : List Named) → doubled_after r e (ns ++ ms) ≡ [] → (x : Name) → (list_any (is_called x) e || list_any (is_called x) ns) ≡ true →
      Each (λ m. bytes_eq x m.name ≡ false) ms
  later_apart e [] ms h x k = apart_from e ms h x (or_none (list_any (is_called x) e) k)
  later_apart e (n ∷ ns) ms h x k =
      later_apart (n ∷ e) ns ms (append_right (flat_map (clash r n) e) (doubled_after r (n ∷ e) (ns ++ ms)) h) x
      (or_turned (list_any (is_called x) e) (is_called x n) (list_any (is_called x) ns) k)

  first_names : (e ns ms : List Named) → doubled_after r e (ns ++ ms) ≡ [] → doubled_after r e ns ≡ []
  first_names e [] ms h = refl
  first_names e (n ∷ ns) ms h =
      ap₂ (λ a b. a ++ b) (append_left (flat_map (clash r n) e) (doubled_after r (n ∷ e) (ns ++ ms)) h)
      (first_names (n ∷ e) ns ms (append_right (flat_map (clash r n) e) (doubled_after r (n ∷ e) (ns ++ ms)) h))

  firsts : {O : Type 0} (e : List Named) (cs : List (AnyConst O)) → doubled_after r e (map (λ c. c.name) cs) ≡ [] → Each (λ c. called cs c.name.name ≡ Some c) cs
  firsts e [] h = tt
  firsts e (c ∷ cs) h =
      let rest = append_right (flat_map (clash r c.name) e) (doubled_after r (c.name ∷ e) (map (λ d. d.name) cs)) h in (
        ap (λ (b : Bool). if b then Some c else called cs c.name.name) (bytes_eq-self c.name.name),
        each_with (λ d. bytes_eq c.name.name d.name.name ≡ false) (λ d. called cs d.name.name ≡ Some d) (λ d. called (c ∷ cs) d.name.name ≡ Some d)
            (λ d p q. ap (λ (b : Bool). if b then Some c else called cs d.name.name) p ∙ q) cs
            (map_each (λ m. bytes_eq c.name.name m.name ≡ false) (λ d. d.name) cs
            (apart_from (c.name ∷ e) (map (λ d. d.name) cs) rest c.name.name (ap (λ (b : Bool). b || list_any (is_called c.name.name) e) (bytes_eq-self c.name.name))))
            (firsts (c.name ∷ e) cs rest),
      )

  module _ {O : Type 0} (cs : List (AnyConst O)) (ms : List Named) (once : doubled r (map (λ c. c.name) cs ++ ms) ≡ []) where
    -- each constant is the first of its name
    pub own_constants : Each (λ c. called cs c.name.name ≡ Some c) cs
    own_constants = firsts [] cs (first_names [] (map (λ c. c.name) cs) ms once)

    -- and no later name is a constant's
    pub others_apart : (x : Name) → list_any (is_called x) (map (λ c. c.name) cs) ≡ true → Each (λ m. bytes_eq x m.name ≡ false) ms
    others_apart x k = later_apart [] (map (λ c. c.name) cs) ms once x k

-- the name of a constant that is found stands among the names
pub called_there : {O : Type 0} (cs : List (AnyConst O)) (x : Name) (c : AnyConst O) → called cs x ≡ Some c → list_any (is_called x) (map (λ c. c.name) cs) ≡ true
called_there [] x c h = absurd cc
called_there (d ∷ cs) x c h = by (is_called x d.name) h (called_there cs x c)
  where
    by : (b : Bool) → (if b then Some d else called cs x) ≡ Some c → (called cs x ≡ Some c → list_any (is_called x) (map (λ c. c.name) cs) ≡ true) →
        (b || list_any (is_called x) (map (λ c. c.name) cs)) ≡ true
    by true e r = refl
    by false e r = r e
