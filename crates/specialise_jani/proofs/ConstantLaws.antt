-- The constants of a file have the values of its constants in any language, and those of the specialised file have the same.
use Rattle.std.specs.Prelude.{◌≡◌, ℕ, zero, suc, map, length, false, Option, Some, None}
use Rattle.std.specs.Option.{option_map}
use Rattle.std.proofs.Common.{refl, sym, subst, ap, ◌∙◌}
use Rattle.std.proofs.Math.Path.{fun_ext}
use Rattle.std.proofs.lemmas.List.{length-map}
use Rattle.basics.specs.Mapped.{found_mapped, turned}
use Rattle.op_trees.specs.Meaning.{Environment, is_wide_value}
use Rattle.op_trees.specs.Names.{is_called}
use Rattle.op_trees.specs.Seen.{Seen, known, known_names}
use Rattle.op_trees.specs.declared.tree.Ty.{Ty}
use Rattle.op_trees.specs.declared.tree.Value.{Value}
use Rattle.process_core.specs.Ready.{Name}
use Rattle.process_core.specs.Instance.{Valuation}
use Rattle.jani_table.specs.declared.operator.JaniOp.{JaniOp}
use Rattle.jani_table.specs.Operators.{jani_meaning}
use Rattle.jani_tree.specs.Syntax.{Expression, Const, File}
use Rattle.jani_meaning.specs.Scene.{see, constant_called, constant_seen, constant_value, constant_within, constant}
use Rattle.constant_folding.specs.declared.known.Fixed.{Fixed}
use Rattle.constant_folding.specs.Known.{Known}
use Rattle.constant_folding.specs.Kept.{Gives}
use Rattle.constant_folding.specs.Constants.{AnyConst, AreRanked, called, const_seen, const_value, const_values, specialised_value, value_within}
use Rattle.constant_folding.specs.Constants as folding
use Rattle.constant_folding.specs.Unfit.{Extends, IsSmall}
use Rattle.constant_folding.proofs.Values as values
use Rattle.specialise_jani.specs.Literal.{jani_literal}
use Rattle.specialise_jani.specs.LiteralLaws.{jani_literals}
use Rattle.specialise_jani.specs.Specialised.{any_const, any_constants, known_constants, folded, specialised_const, specialised}

-- ---- constants by their names
pub any_called : (file : File) (x : Name) → called (any_constants file) x ≡ option_map any_const (constant_called file x)
any_called file x = found_mapped any_const (λ c. is_called x c.name) (λ c. is_called x c.name) (λ c. refl) file.constants

-- the constant of the file that one in any language is
pub own_const : (file : File) (x : Name) (c : AnyConst JaniOp) → called (any_constants file) x ≡ Some c → (d : Const) × (constant_called file x ≡ Some d) × (any_const d ≡ c)
own_const file x c h = by (constant_called file x) refl (sym (any_called file x) ∙ h)
  where
    by : (o : Option Const) → constant_called file x ≡ o → option_map any_const o ≡ Some c → (d : Const) × (constant_called file x ≡ Some d) × (any_const d ≡ c)
    by None e h = absurd cc
    by (Some d) e h = (d, e, (let s : any_const d ≡ c = cc in s))

-- ---- values
seen_alike : (given : Option Value) (names : Name → Seen) (e : Option Expression) → constant_seen given names e ≡ const_seen jani_meaning given names e
unfolding see
seen_alike given names None = refl
seen_alike given names (Some e) = refl

module _ (file : File) (v : Valuation) where
  value_alike : (x : Name) (names : Name → Seen) (o : Option Const) → constant_value (v x) names o ≡ const_value jani_meaning (v x) names (option_map any_const o)
  value_alike x names None = refl
  value_alike x names (Some c) = ap (λ s. s.value) (seen_alike (v x) names c.value)

  within_alike : (n : ℕ) (x : Name) → constant_within file v n x ≡ value_within jani_meaning (any_constants file) v n x
  within_alike zero x = refl
  within_alike (suc n) x =
      ap (λ names. constant_value (v x) names (constant_called file x)) (fun_ext (λ y. ap known (within_alike n y)))
      ∙ value_alike x (λ y. known (value_within jani_meaning (any_constants file) v n y)) (constant_called file x)
      ∙ ap (const_value jani_meaning (v x) (λ y. known (value_within jani_meaning (any_constants file) v n y))) (sym (any_called file x))

  pub constant_alike : constant file v ≡ const_values jani_meaning (any_constants file) v
  constant_alike =
      fun_ext (λ x. within_alike (length file.constants) x ∙ ap (λ n. value_within jani_meaning (any_constants file) v n x) (sym (length-map file.constants any_const)))

module _ (file : File) (given v : Valuation) (extends : Extends given v) (small : IsSmall given) where
  abbrev K : Known
  K = known_constants file given

  pub known_gives : Gives K (constant file v)
  known_gives =
      subst (Gives K) (sym (constant_alike file v))
      (values.known_gives jani_meaning jani_literal jani_literals (any_constants file) given v extends small)

  -- a known constant is one of the file's
  pub known_is_constant : (x : Name) (k : Fixed) → K x ≡ Some k → (c : Const) × (constant_called file x ≡ Some c)
  known_is_constant x k h =
      let c = values.known_is_constant jani_meaning (any_constants file) given (length (any_constants file)) x k h in
      let d = own_const file x c.0 c.1 in
      (d.0, d.1)

  -- wherever known constants have their values, a folded expression is seen as the expression
  pub folded_see : (env : Environment) → Gives K env → (e : Expression) → see (folded K e) (known_names env) ≡ see e (known_names env)
  unfolding see
  folded_see env gives e = values.folded_seen jani_meaning jani_literal jani_literals (any_constants file) given v extends small env gives e

  -- a constant's expression is seen as it was, or as the value that is given
  pub value_same : (x : Name) (ty : Ty) (o : Option Expression) (names : Name → Seen) → ((t : Expression) → see (folded K t) names ≡ see t names) →
      constant_seen (v x) names (specialised_value jani_meaning jani_literal (given x) K ty o) ≡ constant_seen (v x) names o
  unfolding see
  value_same x ty o names k =
      seen_alike (v x) names (specialised_value jani_meaning jani_literal (given x) K ty o)
      ∙ values.value_same jani_meaning jani_literal jani_literals (any_constants file) given v extends small (given x) (v x)
      (values.given_right jani_meaning jani_literal jani_literals (any_constants file) given v extends small x x refl) ty o names names (λ t e. k t)
      ∙ sym (seen_alike (v x) names o)

  -- ---- constants of the specialised file
  abbrev new : File
  new = specialised file given

  new_constants : any_constants new ≡ map (folding.specialised_const jani_meaning jani_literal given K) (any_constants file)
  new_constants = turned (folding.specialised_const jani_meaning jani_literal given K) (specialised_const given K) any_const any_const (λ c. refl) file.constants

  module _ (ranked : AreRanked (any_constants file)) where
    pub constants_same : constant new v ≡ constant file v
    constants_same =
        constant_alike new v
        ∙ ap (λ cs. const_values jani_meaning cs v) new_constants
        ∙ values.values_same jani_meaning jani_literal jani_literals (any_constants file) given v extends small ranked.rank ranked.ranked
        ∙ sym (constant_alike file v)

-- what is seen of a literal
pub literal_see : (y : Value) (ty : Ty) (names : Name → Seen) → is_wide_value (Some y) ≡ false → see (jani_literal y ty) names ≡ known (Some y)
unfolding see
literal_see y ty names h = jani_literals.seen_as y ty names h
