-- What is known of constants, turn by turn.
use Rattle.std.proofs.Common.{◌≡◌, ℕ, zero, suc, ◌<◌, List, [], ◌∷◌, ◌++◌, map, length, take, get_or, Bool, true, false, ◌||◌, Option, Some, None, refl, sym, ap, subst, ◌∙◌, arith}
use Rattle.std.specs.Prelude.{nat_eq, slice_get, unwrap_or, bytes_eq, if◌then◌else◌}
use Rattle.std.specs.List.{All, AllByRecursion as Each, list_any}
use Rattle.std.specs.Option.{option_map}
use Rattle.std.proofs.lemmas.Bool.Decides.{nat_tests}
use Rattle.std.proofs.lemmas.List.{length-map}
use Rattle.std.proofs.lemmas.List.Folds.{list_any-append}
use Rattle.std.proofs.lemmas.Option.{slice_get-map, slice_get_within, slice_get_read}
use Rattle.std.proofs.lemmas.Slice.Eq.{bytes_eq-Decides}
use Rattle.op_trees.specs.Meaning.{Meaning}
use Rattle.op_trees.specs.Tree.{Tree, AllNames}
use Rattle.op_trees.specs.SeenLaws.{names_then}
use Rattle.op_trees.specs.Names.{is_called}
use Rattle.op_trees.specs.declared.tree.Ty.{Ty}
use Rattle.op_trees.specs.declared.tree.Value.{Value}
use Rattle.name_rules.specs.Circles.{Declared, declared_at, HasTurned, AreTurns}
use Rattle.name_rules.specs.Names.{put}
use Rattle.name_rules.specs.Uses.{used}
use Rattle.process_core.specs.Ready.{Name}
use Rattle.process_core.specs.Instance.{Valuation}
use Rattle.constant_folding.specs.declared.known.Fixed.{Fixed}
use Rattle.constant_folding.specs.declared.constants.AnyConst as code
use Rattle.constant_folding.specs.Known.{Known, worth}
use Rattle.constant_folding.specs.Constants.{AnyConst, const_of, called, declared, RanksBelow, IsRank, fixed_as, known_by, known_const, known_within, known_constants}
use Rattle.constant_folding.proofs.Kept.{summary_agree_on}
use Rattle.name_rules.proofs.InTurn.{left_in_turn, turn_of}
use Rattle.constant_folding.proofs.Turns.{const_at, found_const, declared_there, ranked}
use Rattle.op_trees.specs.NameLaws.{each_name}

-- the constant that has its turn
pub const_there : {O : Type 0} (cs : List (code.AnyConst O)) (turns : List ℕ) → All (λ t. t < length (map declared (map const_of cs))) turns → (k : ℕ) → k < length turns →
    (c : code.AnyConst O) → c ≡ get_or cs (get_or turns k 0) c → slice_get (map const_of cs) (get_or turns k 0) ≡ Some (const_of c)
const_there cs turns within k l c e =
    let m : get_or turns k 0 < length (map declared (map const_of cs)) = within k 0 l in
    let n = length-map (map const_of cs) declared in
    let o = length-map cs const_of in
    slice_get-map const_of cs (get_or turns k 0) ∙ ap (option_map const_of) (slice_get_read cs (length cs) (get_or turns k 0) c refl (omega (arith, m, n, o)) e)

-- a table with one entry more
pub entry_put : (values : Name → Option (Option Fixed)) (name x : Name) (v : Option Fixed) →
    unwrap_or (put values name v x) None ≡ (if bytes_eq name x then v else unwrap_or (values x) None)
entry_put values name x v = by (bytes_eq name x)
  where
    by : (b : Bool) → unwrap_or (if b then Some v else values x) None ≡ (if b then v else unwrap_or (values x) None)
    by true = refl
    by false = refl

known_agree : {O : Type 0} (m : Meaning O) (g : Option Value) (k l : Known) (ty : Ty) (o : Option (Tree O)) → ((e : Tree O) → o ≡ Some e → AllNames (λ x. k x ≡ l x) e) →
    known_by m g k ty o ≡ known_by m g l ty o
known_agree m g k l ty None h = refl
known_agree m g k l ty (Some e) h = ap (λ s. fixed_as ty (worth s)) (summary_agree_on m k l e (h e refl))

module _ {O : Type 0} (m : Meaning O) (cs : List (AnyConst O)) (given : Valuation) (turns : List ℕ) (h : AreTurns (map declared cs) turns) where
  abbrev ds : List Declared
  ds = map declared cs

  abbrev rank : Name → ℕ
  rank x = turn_of turns (const_at cs x)

  abbrev K : Known
  K = known_constants m cs given

  is_ranked : IsRank cs rank
  is_ranked = ranked cs turns h

  -- ---- what is known settles
  none_known : (x : Name) → RanksBelow cs rank 0 x → (o : Option (AnyConst O)) → called cs x ≡ o → None ≡ known_const m (given x) (known_within m cs given 0) o
  none_known x b None e = refl
  none_known x b (Some c) e = absurd (let low : rank x < 0 = b.below c e in omega arith)

  one_step : (n : ℕ) → ((y : Name) → RanksBelow cs rank n y → known_within m cs given n y ≡ known_within m cs given (suc n) y) → (x : Name) → RanksBelow cs rank (suc n) x →
      (o : Option (AnyConst O)) → called cs x ≡ o → known_const m (given x) (known_within m cs given n) o ≡ known_const m (given x) (known_within m cs given (suc n)) o
  one_step n ih x b None e = refl
  one_step n ih x b (Some c) e =
      let low : rank x < suc n = b.below c e in
      known_agree m (given x) (known_within m cs given n) (known_within m cs given (suc n)) c.ty c.value
      (λ t l.
      names_then (RanksBelow cs rank (rank x)) (λ y. known_within m cs given n y ≡ known_within m cs given (suc n) y)
      (λ y g. ih y (record {
        below = λ d k. let deep : rank y < rank x = g.below d k in omega arith;
      })) t (is_ranked.falls x c t e l))

  settles : (n : ℕ) (x : Name) → RanksBelow cs rank n x → known_within m cs given n x ≡ known_within m cs given (suc n) x
  settles zero x b = none_known x b (called cs x) refl
  settles (suc n) x b = one_step n (settles n) x b (called cs x) refl

  known_is : (x : Name) → K x ≡ known_const m (given x) K (called cs x)
  known_is x = settles (length cs) x (is_ranked.within x)

  -- ---- at the start, and at the end
  pub none_turned : (x : Name) → HasTurned ds [] x → None ≡ K x
  none_turned x t = sym (known_is x ∙ by (called cs x) refl)
    where
      by : (o : Option (AnyConst O)) → called cs x ≡ o → known_const m (given x) K o ≡ None
      by None k = refl
      by (Some c) k =
          let i = const_at cs x in
          let there = found_const cs x c k in
          let l = slice_get_within cs i c there.0 in
          let s = length-map cs declared in
          absurd (let no : false ≡ true = t i (omega (arith, l, s)) (ap (λ (d : Declared). is_called x d.name) (declared_there cs i c there.0) ∙ there.1) in cc)

  pub all_turned : (x : Name) → HasTurned ds turns x
  all_turned x i l e = h.turned i l

  -- ---- one turn
  module _ (own : Each (λ c. called cs c.name.name ≡ Some c) cs) where
    own_at : (ks : List (AnyConst O)) → Each (λ c. called cs c.name.name ≡ Some c) ks → (i : ℕ) (c : AnyConst O) → slice_get ks i ≡ Some c → called cs c.name.name ≡ Some c
    own_at [] p i c e = absurd cc
    own_at (d ∷ ks) p zero c e = subst (λ (k : AnyConst O). called cs k.name.name ≡ Some k) (let s : d ≡ c = cc in s) p.0
    own_at (d ∷ ks) p (suc i) c e = own_at ks p.1 i c e

    module _ (T : Known) (k t : ℕ) (c : AnyConst O) (turn : slice_get turns k ≡ Some t) (there : slice_get cs t ≡ Some c)
        (right : (x : Name) → HasTurned ds (take k turns) x → T x ≡ K x) where
      known_here : known_by m (given c.name.name) T c.ty c.value ≡ K c.name.name
      known_here =
          known_agree m (given c.name.name) T K c.ty c.value
          (λ e l.
          names_then (HasTurned ds (take k turns)) (λ y. T y ≡ K y) right e
          (each_name (HasTurned ds (take k turns)) e
          (subst (λ us. All (HasTurned ds (take k turns)) us) (ap (λ (d : Declared). d.uses) (declared_there cs t c there) ∙ ap used l)
          (left_in_turn ds [] turns k t h.order turn))))
          ∙ ap (known_const m (given c.name.name) K) (sym (own_at cs own t c there))
          ∙ sym (known_is c.name.name)

      earlier : (x : Name) → bytes_eq c.name.name x ≡ false → HasTurned ds (take k turns ++ t ∷ []) x → HasTurned ds (take k turns) x
      earlier x other g j l e = by (list_any (nat_eq j) (take k turns)) (nat_eq j t) refl (sym (list_any-append (nat_eq j) (take k turns) (t ∷ [])) ∙ g j l e)
        where
          by : (a b : Bool) → nat_eq j t ≡ b → (a || (b || false)) ≡ true → a ≡ true
          by true b p q = refl
          by false false p q = absurd cc
          by false true p q =
              let same : t ≡ j = grind (arith, nat_tests) in
              let here : is_called x c.name ≡ true = sym (ap (λ (d : Declared). is_called x d.name) (declared_there cs t c there)) ∙ ap (λ i. is_called x (declared_at ds i).name) same ∙ e in
              absurd (let no : true ≡ false = sym here ∙ other in cc)

      one_later : (x : Name) → HasTurned ds (take k turns ++ t ∷ []) x →
          (if bytes_eq c.name.name x then known_by m (given c.name.name) T c.ty c.value else T x) ≡ K x
      one_later x g = by (bytes_eq c.name.name x) refl
        where
          by : (b : Bool) → bytes_eq c.name.name x ≡ b → (if b then known_by m (given c.name.name) T c.ty c.value else T x) ≡ K x
          by true e = known_here ∙ ap K ((bytes_eq-Decides c.name.name x).0 e)
          by false e = right x (earlier x e g)

    pub one_more : (T : Known) (k t : ℕ) (c : AnyConst O) → slice_get turns k ≡ Some t → slice_get cs t ≡ Some c → ((x : Name) → HasTurned ds (take k turns) x → T x ≡ K x) →
        (x : Name) → HasTurned ds (take k turns ++ t ∷ []) x → (if bytes_eq c.name.name x then known_by m (given c.name.name) T c.ty c.value else T x) ≡ K x
    one_more T k t c turn there right x g = one_later T k t c turn there right x g
