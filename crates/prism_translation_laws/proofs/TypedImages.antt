-- Images of expressions: their types, their names, and what is wanted of them.
use Rattle.std.specs.Prelude.{◌≡◌, ℕ, [], map, Bool, true, false, not, ◌||◌, Option, Some, None, IsTrue, is_some, if◌then◌else◌}
use Rattle.std.proofs.Common.{refl, sym, ap, ap₂, subst, ◌∙◌}
use Rattle.std.proofs.lemmas.Bool.{not-false}
use Rattle.basics.specs.Options.{has_some}
use Rattle.basics.specs.Lists.{append_parts, append_both, empty_map}
use Rattle.bridge_io.specs.declared.reason.Reason.TheVariants.{WrongType}
use Rattle.frac_core.specs.declared.decimal.Decimal.{Decimal}
use Rattle.op_trees.specs.declared.tree.Ty.{Ty}
use Rattle.op_trees.specs.declared.tree.Ty.TheVariants as T
use Rattle.op_trees.specs.Tree.{Truth, Number, Name as At, One, Two, Three, AllNames}
use Rattle.op_trees.specs.Meaning.{Meaning}
use Rattle.op_trees.specs.Types as trees
use Rattle.op_trees.specs.Types.{Types, number_type, sort_one, sort_two, sort_three, type_in, misfit_at}
use Rattle.op_trees.specs.TypeLaws.{misfits_none, some_one, some_two, some_three, names_typed}
use Rattle.op_trees.specs.Standard.{standard_meaning}
use Rattle.op_trees.specs.AlongLaws.{sort_one_alike, sort_two_alike, sort_three_alike}
use Rattle.op_trees.specs.Names.{offset_of}
use Rattle.op_trees.specs.NameLaws.{none_named}
use Rattle.op_trees.specs.Wanted.{is_wanted, is_unwanted, wanted_by}
use Rattle.process_core.specs.Ready.{Name}
use Rattle.prism_tree.specs.declared.operator.PrismOp.TheVariants as P
use Rattle.prism_tree.specs.Operators.{prism_meaning}
use Rattle.prism_tree.specs.Operators as PrismTable
use Rattle.prism_tree.specs.Syntax as prism
use Rattle.name_rules.specs.Least as prism_least
use Rattle.prism_check.specs.TypeFaults as prism_types
use Rattle.jani_table.specs.declared.operator.JaniOp.{JaniOp}
use Rattle.jani_table.specs.declared.operator.JaniOp.TheVariants as J
use Rattle.jani_table.specs.Operators.{jani_meaning}
use Rattle.jani_table.specs.Operators as JaniTable
use Rattle.jani_tree.specs.Syntax.{Expression}
use Rattle.name_rules.specs.Least.{fault, fault_if}
use Rattle.jani_check.specs.TypeFaults as jani_types
use Rattle.prism_translation.proofs.ImageSeen.{same_op}
use Rattle.prism_translation.specs.Image.{prism_op, unsigned, literal, image}
use Rattle.prism_translation_laws.specs.TypeLaws.{ImageTypedAlike}

-- ---- types of images
literal_type : (at : ℕ) (d : Decimal) (types : Types) → type_in prism_meaning types (literal at d) ≡ Some (number_type d)
literal_type at d types = by_sign d.negative d.real
  where
    by_sign : (b real : Bool) → type_in prism_meaning types (if b then One at P.Neg (Number at (record { real = real; negative = false; exponent = d.exponent; digits = d.digits })) else Number at (record { real = real; negative = d.negative; exponent = d.exponent; digits = d.digits })) ≡ Some (if real then T.Real else T.Int)
    by_sign true true = refl
    by_sign true false = refl
    by_sign false real = refl

module _ (new : Name → Name) (old types : Types) where
  typed_by : (e : Expression) → AllNames (λ x. types (new x) ≡ old x) e → type_in prism_meaning types (image new e) ≡ type_in jani_meaning old e
  typed_by (Truth at b) n = refl
  typed_by (Number at d) n = literal_type at d types
  typed_by (At at x) n = n
  typed_by (One at o a) n = ap (sort_one prism_meaning (prism_op o)) (typed_by a n) ∙ sort_one_alike PrismTable.standard JaniTable.standard standard_meaning (prism_op o) o (same_op o) (type_in jani_meaning old a)
  typed_by (Two at o a b) n =
      ap₂ (sort_two prism_meaning (prism_op o)) (typed_by a n.0) (typed_by b n.1)
      ∙ sort_two_alike PrismTable.standard JaniTable.standard standard_meaning (prism_op o) o (same_op o) (type_in jani_meaning old a) (type_in jani_meaning old b)
  typed_by (Three at o a b c) n =
      ap₂ {B = Option Ty → Option Ty} (λ r g. g r) (typed_by a n.0) (ap₂ (λ s t r. sort_three prism_meaning (prism_op o) r s t) (typed_by b n.1) (typed_by c n.2))
      ∙ sort_three_alike PrismTable.standard JaniTable.standard standard_meaning (prism_op o) o (same_op o) (type_in jani_meaning old a) (type_in jani_meaning old b) (type_in jani_meaning old c)

pub image_typed_alike : ImageTypedAlike
image_typed_alike new e old types n = typed_by new old types e n

-- ---- what a type gives
fits_at : (at : ℕ) (b : Bool) (o : Option Ty) → IsTrue (is_some o) → misfit_at at b o ≡ []
fits_at at b None h = absurd cc
fits_at at true (Some t) h = refl
fits_at at false (Some t) h = refl

-- and nothing misfits in it
typed_fits : (ty : Types) (e : prism.Expression) → IsTrue (is_some (type_in prism_meaning ty e)) → prism_types.misfits ty e ≡ []
typed_fits ty (Truth at b) h = refl
typed_fits ty (Number at d) h = refl
typed_fits ty (At at x) h = refl
typed_fits ty (One at o a) h =
    let s = some_one prism_meaning o (type_in prism_meaning ty a) h in
    append_both (prism_types.misfits ty a) _ (typed_fits ty a s) (fits_at at _ (type_in prism_meaning ty (One at o a)) h)
typed_fits ty (Two at o a b) h =
    let s = some_two prism_meaning o (type_in prism_meaning ty a) (type_in prism_meaning ty b) h in
    append_both (prism_types.misfits ty a) _ (typed_fits ty a s.0)
    (append_both (prism_types.misfits ty b) _ (typed_fits ty b s.1) (fits_at at _ (type_in prism_meaning ty (Two at o a b)) h))
typed_fits ty (Three at o a b c) h =
    let s = some_three prism_meaning o (type_in prism_meaning ty a) (type_in prism_meaning ty b) (type_in prism_meaning ty c) h in
    append_both (prism_types.misfits ty a) _ (typed_fits ty a s.0)
    (append_both (prism_types.misfits ty b) _ (typed_fits ty b s.1)
    (append_both (prism_types.misfits ty c) _ (typed_fits ty c s.2) (fits_at at _ (type_in prism_meaning ty (Three at o a b c)) h)))

-- ---- what is wanted

-- an expression with a type that is wanted, of a JANI file and of a PRISM file
pub record HasType (ty : Types) (w : Ty) (e : Expression) : Type 0 where
  pub type : Ty
  pub is : type_in jani_meaning ty e ≡ Some type
  pub wanted : is_wanted (wanted_by w) type ≡ true

pub record HasPrismType (ty : Types) (w : Ty) (e : prism.Expression) : Type 0 where
  pub type : Ty
  pub is : type_in prism_meaning ty e ≡ Some type
  pub wanted : is_wanted (wanted_by w) type ≡ true

pub has_type : (ty : Types) (w : Ty) (e : Expression) → jani_types.type_faults_of ty (wanted_by w) e ≡ [] → HasType ty w e
has_type ty w e h =
    let t = type_in jani_meaning ty e in
    let r = append_parts (map (λ at. fault at WrongType) (trees.misfits jani_meaning ty e)) (fault_if (is_unwanted (wanted_by w) t) (offset_of e) WrongType) h in
    let s = has_some t ((misfits_none jani_meaning ty e).0 (empty_map (λ at. fault at WrongType) (trees.misfits jani_meaning ty e) r.0)) in
    record {
      type = s.0;
      is = s.1;
      wanted =
          not-false (is_wanted (wanted_by w) s.0)
          (sym (ap (is_unwanted (wanted_by w)) s.1) ∙ unless (is_unwanted (wanted_by w) t) (offset_of e) r.1);
    }
  where
    unless : (b : Bool) (at : ℕ) → fault_if b at WrongType ≡ [] → b ≡ false
    unless true at e = absurd cc
    unless false at e = refl

pub is_typed : (ty : Types) (w : Ty) (e : Expression) → HasType ty w e → IsTrue (is_some (type_in jani_meaning ty e))
is_typed ty w e h = subst (λ o. IsTrue (is_some o)) (sym h.is) refl

pub no_type_faults : (ty : Types) (w : Ty) (e : prism.Expression) → HasPrismType ty w e → prism_types.type_faults_of ty (wanted_by w) e ≡ []
no_type_faults ty w e h =
    append_both (map (λ at. prism_least.fault at WrongType) (prism_types.misfits ty e)) _
    (ap (map (λ at. prism_least.fault at WrongType)) (typed_fits ty e (subst (λ o. IsTrue (is_some o)) (sym h.is) refl)))
    (ap (λ b. prism_least.fault_if b (offset_of e) WrongType) (ap (is_unwanted (wanted_by w)) h.is ∙ ap not h.wanted))

-- an image has what its expression has
pub image_has_type : (new : Name → Name) (old types : Types) (w : Ty) (e : Expression) → HasType old w e → AllNames (λ x. types (new x) ≡ old x) e → HasPrismType types w (image new e)
image_has_type new old types w e h n = record { type = h.type; is = typed_by new old types e n ∙ h.is; wanted = h.wanted }

-- what is an int may stand for a number
pub as_number : (ty : Types) (w : Ty) (e : Expression) → (w ≡ T.Bool → ⊥) → HasType ty w e → HasType ty T.Real e
as_number ty T.Bool e n h = absurd (n refl)
as_number ty T.Int e n h = record { type = h.type; is = h.is; wanted = whole h.type h.wanted }
  where
    whole : (t : Ty) → is_wanted (wanted_by T.Int) t ≡ true → is_wanted (wanted_by T.Real) t ≡ true
    whole T.Bool k = absurd cc
    whole T.Int k = refl
    whole T.Real k = absurd cc
as_number ty T.Real e n h = h

-- ---- names
literal_names : (Q : Name → Type 0) (at : ℕ) (d : Decimal) → AllNames Q (literal at d)
literal_names Q at d = by_sign d.negative
  where
    by_sign : (b : Bool) → AllNames Q (if b then One at P.Neg (Number at (unsigned d)) else Number at d)
    by_sign true = tt
    by_sign false = tt

-- the names of an image are new names
pub image_names : (Q : Name → Type 0) (new : Name → Name) (e : Expression) → AllNames (λ x. Q (new x)) e → AllNames Q (image new e)
image_names Q new (Truth at b) h = tt
image_names Q new (Number at d) h = literal_names Q at d
image_names Q new (At at x) h = h
image_names Q new (One at o a) h = image_names Q new a h
image_names Q new (Two at o a b) h = (image_names Q new a h.0, image_names Q new b h.1)
image_names Q new (Three at o a b c) h = (image_names Q new a h.0, image_names Q new b h.1, image_names Q new c h.2)
