-- Values given for constants, and for those that go with them.
use Rattle.std.proofs.Common.{◌≡◌, ℕ, ◌+◌, ◌<◌, ◌≤◌, List, [], ◌∷◌, ◌++◌, map, length, Bool, true, false, not, ◌||◌, ◌&&◌, cond, Option, Some, None, is_none, if◌then◌else◌, bytes_eq, get_or, drop, refl, sym, ap, ap₂, ◌∙◌, subst, append-nil, append_assoc}
use Rattle.std.specs.List.{list_any, AllZip, AllByRecursion as Each, IsDistinct, position_or_len}
use Rattle.std.proofs.lemmas.List.{drop_all}
use Rattle.basics.specs.Lists.{drop_item}
use Rattle.basics.specs.Booleans.{second_true, first_false, second_false}
use Rattle.basics.specs.Texts.{bytes_eq-self, bytes_eq-true}
use Rattle.op_trees.specs.declared.tree.Value.{Value}
use Rattle.op_trees.specs.Types.{has_type}
use Rattle.process_core.specs.Ready.{Name}
use Rattle.process_core.specs.Instance.{Valuation}
use Rattle.process_core.specs.declared.data.Given.{Given}
use Rattle.instance_start.specs.declared.data.Constant as code
use Rattle.instance_start.specs.Columns.{constant_of}
use Rattle.instance_start.specs.Description.{Constant}
use Rattle.instance_start.specs.Given.{given_by, misfit, fits, takes, is_taken, is_missing, constant_called}
use Rattle.instance_start.proofs.Givens.{none_misfits, given_typed}
use Rattle.model_carrying.specs.Values.{value_as, values_there, AreLike, names, ValuesFit, IsGivenAs, AreGivenAlike, ValuesAreAlike}

-- ---- the constant of a name is that one
abbrev OwnName : List Constant → Constant → Type 0
OwnName cs c = constant_called cs c.name ≡ Some c

own_names : (cs : List Constant) → IsDistinct bytes_eq (names cs) → Each (OwnName cs) cs
unfolding IsDistinct
own_names [] d = tt
own_names (c ∷ cs) d = (ap (λ b. cond b (Some c) (constant_called cs c.name)) (bytes_eq-self c.name), behind cs (own_names cs d.1) d.0)
  where
    behind : (ds : List Constant) → Each (OwnName cs) ds → Each (λ y. bytes_eq c.name y ≡ false) (names ds) → Each (OwnName (c ∷ cs)) ds
    behind [] h k = tt
    behind (d ∷ ds) h k = (ap (λ b. cond b (Some c) (constant_called cs d.name)) k.0 ∙ h.0, behind ds h.1 k.1)

-- ---- a value that fits
no_missing : {A : Type 0} (b c : Bool) (i j : A) → (if b then Some i else (if c then Some j else None)) ≡ None → c ≡ false
no_missing true c i j h = absurd cc
no_missing false true i j h = absurd cc
no_missing false false i j h = refl

none_missing : (cs : List Constant) (given : List Given) → misfit cs given ≡ None → list_any (is_missing given) cs ≡ false
none_missing cs given m = no_missing (list_any (λ g. not (fits cs g)) given) (list_any (is_missing given) cs) (position_or_len (λ g. not (fits cs g)) given) (length given) m

given_taken : (cs : List Constant) (given : List Given) → list_any (λ g. not (fits cs g)) given ≡ false → (x : Name) (c : Constant) → constant_called cs x ≡ Some c → (v : Value) → given_by given x ≡ Some v → takes c.ty v ≡ true
given_taken cs [] h x c f v e = absurd cc
given_taken cs (g ∷ gs) h x c f v e = by_name (bytes_eq g.name x) refl (λ k. given_taken cs gs (second_false (not (fits cs g)) _ h) x c f v k) e
  where
    not_false : (b : Bool) → not b ≡ false → b ≡ true
    not_false true k = refl
    not_false false k = absurd cc

    by_name : (b : Bool) → bytes_eq g.name x ≡ b → (given_by gs x ≡ Some v → takes c.ty v ≡ true) → (if b then Some g.value else given_by gs x) ≡ Some v → takes c.ty v ≡ true
    by_name true n r k =
        let found : constant_called cs g.name ≡ Some c = ap (constant_called cs) (bytes_eq-true g.name x n) ∙ f in
        let taken = sym (ap (λ o. is_taken o g.value) found) ∙ not_false (fits cs g) (first_false (not (fits cs g)) _ h) in
        subst (λ w. takes c.ty w ≡ true) (let z : g.value ≡ v = cc in z) (second_true c.is_open (takes c.ty g.value) taken)
    by_name false n r k = r k

-- ---- what is given there
skipped : (b : Bool) (x y : Name) (o : Option Value) (rest : List Given) → bytes_eq x y ≡ false → given_by (value_as b x o ++ rest) y ≡ given_by rest y
skipped true x y (Some v) rest e = ap (λ b. if b then Some v else given_by rest y) e
skipped true x y None rest e = refl
skipped false x y o rest e = refl

-- a name that none of them has
none_given : (cs ds : List Constant) (v : Valuation) (x : Name) → Each (λ y. bytes_eq x y ≡ false) (names ds) → given_by (values_there cs ds v) x ≡ None
none_given [] ds v x h = refl
none_given (c ∷ cs) [] v x h = refl
none_given (c ∷ cs) (d ∷ ds) v x h = skipped c.is_open d.name x (v c.name) (values_there cs ds v) (swap d.name x h.0) ∙ none_given cs ds v x h.1
  where
    swap : (y x : Name) → bytes_eq x y ≡ false → bytes_eq y x ≡ false
    swap y x e = by_test (bytes_eq y x) refl
      where
        by_test : (b : Bool) → bytes_eq y x ≡ b → bytes_eq y x ≡ false
        by_test false f = f
        by_test true f = absurd (let no : true ≡ false = sym (ap (bytes_eq x) (bytes_eq-true y x f) ∙ bytes_eq-self x) ∙ e in cc)

given_same : (cs ds : List Constant) (v : Valuation) → AllZip AreLike cs ds → IsDistinct bytes_eq (names ds) → AllZip (IsGivenAs v (given_by (values_there cs ds v))) cs ds
unfolding IsDistinct
given_same [] [] v h d = tt
given_same [] (e ∷ ds) v h d = absurd h
given_same (c ∷ cs) [] v h d = absurd h
given_same (c ∷ cs) (e ∷ ds) v h d = (first c.is_open (v c.name), behind cs ds (given_same cs ds v h.1 d.1) d.0)
  where
    rest : List Given
    rest = values_there cs ds v

    first : (b : Bool) (o : Option Value) → b ≡ true → given_by (value_as b e.name o ++ rest) e.name ≡ o
    first true (Some x) i = ap (λ b. if b then Some x else given_by rest e.name) (bytes_eq-self e.name)
    first true None i = none_given cs ds v e.name d.0
    first false o i = absurd cc

    behind : (xs ys : List Constant) → AllZip (IsGivenAs v (given_by rest)) xs ys → Each (λ y. bytes_eq e.name y ≡ false) (names ys) → AllZip (IsGivenAs v (given_by (value_as c.is_open e.name (v c.name) ++ rest))) xs ys
    behind [] [] k a = tt
    behind [] (y ∷ ys) k a = absurd k
    behind (x ∷ xs) [] k a = absurd k
    behind (x ∷ xs) (y ∷ ys) k a = ((λ i. skipped c.is_open e.name y.name (v c.name) rest a.0 ∙ k.0 i), behind xs ys k.1 a.1)

-- ---- they fit
module _ (all others : List Constant) (given : List Given) (fit : list_any (λ g. not (fits all g)) given ≡ false) where
  one_fits : (c d : Constant) → AreLike c d → OwnName all c → OwnName others d → (b : Bool) → c.is_open ≡ b → (o : Option Value) → given_by given c.name ≡ o → list_any (λ g. not (fits others g)) (value_as b d.name o) ≡ false
  one_fits c d l own there false e o f = refl
  one_fits c d l own there true e None f = refl
  one_fits c d l own there true e (Some v) f =
      ap (λ k. not (is_taken k v) || false) there
      ∙ ap₂ (λ a b. not (a && b) || false) (sym l.opens ∙ e) (ap (λ t. takes t v) (sym l.types) ∙ given_taken all given fit c.name c own v f)

  each_fits : (cs ds : List Constant) → AllZip AreLike cs ds → Each (OwnName all) cs → Each (OwnName others) ds → list_any (λ g. not (fits others g)) (values_there cs ds (given_by given)) ≡ false
  each_fits [] ds h a b = refl
  each_fits (c ∷ cs) [] h a b = absurd h
  each_fits (c ∷ cs) (d ∷ ds) h a b =
      joined (value_as c.is_open d.name (given_by given c.name)) (values_there cs ds (given_by given)) (one_fits c d h.0 a.0 b.0 c.is_open refl (given_by given c.name) refl) (each_fits cs ds h.1 a.1 b.1)
    where
      joined : (xs ys : List Given) → list_any (λ g. not (fits others g)) xs ≡ false → list_any (λ g. not (fits others g)) ys ≡ false → list_any (λ g. not (fits others g)) (xs ++ ys) ≡ false
      joined [] ys p q = q
      joined (x ∷ xs) ys p q = ap₂ (λ m n. m || n) (first_false (not (fits others x)) _ p) (joined xs ys (second_false (not (fits others x)) _ p) q)

-- none is missing
none_missing_there : (cs ds : List Constant) (given more : List Given) → AllZip AreLike cs ds → AllZip (IsGivenAs (given_by given) (given_by more)) cs ds → list_any (is_missing given) cs ≡ false → list_any (is_missing more) ds ≡ false
none_missing_there [] [] given more h k m = refl
none_missing_there [] (d ∷ ds) given more h k m = absurd h
none_missing_there (c ∷ cs) [] given more h k m = absurd h
none_missing_there (c ∷ cs) (d ∷ ds) given more h k m =
    ap₂ (λ a b. a || b) (one c.is_open refl (first_false (is_missing given c) _ m)) (none_missing_there cs ds given more h.1 k.1 (second_false (is_missing given c) _ m))
  where
    one : (b : Bool) → c.is_open ≡ b → is_missing given c ≡ false → is_missing more d ≡ false
    one false e f = ap (λ b. b && is_none (given_by more d.name)) (sym h.0.opens ∙ e)
    one true e f =
        ap₂ (λ a b. a && is_none b) (sym h.0.opens ∙ e) (k.0 e) ∙ sym (ap (λ a. a && is_none (given_by given c.name)) e) ∙ f

both_false : {A : Type 0} (b c : Bool) (i j : A) → b ≡ false → c ≡ false → (if b then Some i else (if c then Some j else None)) ≡ None
both_false true c i j e f = absurd cc
both_false false true i j e f = absurd cc
both_false false false i j e f = refl

pub values_fit : ValuesFit
values_fit cs ds given t m =
    let more = values_there cs ds (given_by given) in
    both_false (list_any (λ g. not (fits ds g)) more) (list_any (is_missing more) ds) (position_or_len (λ g. not (fits ds g)) more) (length more)
    (each_fits cs ds given (none_misfits cs given m) cs ds t.alike (own_names cs t.here) (own_names ds t.there))
    (none_missing_there cs ds given more t.alike (given_same cs ds (given_by given) t.alike t.there) (none_missing cs given m))

-- ---- and are the same
pub values_are_alike : ValuesAreAlike
values_are_alike cs ds given t m = each cs ds (own_names cs t.here) (given_same cs ds (given_by given) t.alike t.there)
  where
    v : Valuation
    v = given_by given

    w : Valuation
    w = given_by (values_there cs ds v)

    each : (xs ys : List Constant) → Each (OwnName cs) xs → AllZip (IsGivenAs v w) xs ys → AllZip (AreGivenAlike v w) xs ys
    each [] [] a h = tt
    each [] (y ∷ ys) a h = absurd h
    each (x ∷ xs) [] a h = absurd h
    each (x ∷ xs) (y ∷ ys) a h = (
      record {
        same = h.0;
        typed = λ i. record { agrees = λ type value e f. subst (λ z. has_type z value ≡ true) (let z : x.ty ≡ type = cc in z) (given_typed cs given (none_misfits cs given m) x.name x a.0 value f) };
      },
      each xs ys a.1 h.1,
    )

-- ---- as it is computed

no_more : (cs : List Constant) (v : Valuation) → values_there cs [] v ≡ []
no_more [] v = refl
no_more (c ∷ cs) v = refl

module _ (here there : List code.Constant) (i : ℕ) (v : Valuation) (old all : List Given)
    (so_far : old ++ values_there (map constant_of (drop i here)) (map constant_of (drop i there)) v ≡ all) where
  pub one_more : (h t : code.Constant) (new : List Given) → i < length here → i < length there → h ≡ get_or here i h → t ≡ get_or there i t →
      new ≡ old ++ value_as h.is_open t.name.now (v h.name.now) → new ++ values_there (map constant_of (drop (i + 1) here)) (map constant_of (drop (i + 1) there)) v ≡ all
  one_more h t new a b e f g =
      let rest = values_there (map constant_of (drop (i + 1) here)) (map constant_of (drop (i + 1) there)) v in
      ap (λ r. r ++ rest) g ∙ append_assoc old (value_as h.is_open t.name.now (v h.name.now)) rest
      ∙ sym (ap₂ (λ x y. old ++ values_there (map constant_of x) (map constant_of y) v) (drop_item here i h a e) (drop_item there i t b f)) ∙ so_far

  pub here_ends : length here ≤ i → old ≡ all
  here_ends l = sym (append-nil old) ∙ ap (λ x. old ++ values_there (map constant_of x) (map constant_of (drop i there)) v) (sym (drop_all i here l)) ∙ so_far

  pub there_ends : length there ≤ i → old ≡ all
  there_ends l =
      sym (append-nil old) ∙ ap (λ r. old ++ r) (sym (no_more (map constant_of (drop i here)) v))
      ∙ ap (λ x. old ++ values_there (map constant_of (drop i here)) (map constant_of x) v) (sym (drop_all i there l)) ∙ so_far
