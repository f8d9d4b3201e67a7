-- The expressions of written properties with their names marked: their formulas written out, and what is seen of them.
use Rattle.std.proofs.Common.{◌≡◌, ℕ, zero, suc, refl, sym, ap, ap₂, ◌∙◌, Bool, true, false, ◌||◌, List, length, Option, Some, None}
use Rattle.std.specs.Prelude.{if◌then◌else◌, bytes_eq}
use Rattle.std.specs.Option.{option_map}
use Rattle.basics.specs.Texts.{bytes_eq-true}
use Rattle.op_trees.specs.declared.tree.Ty.{Ty}
use Rattle.op_trees.specs.declared.tree.Ty.TheVariants as T
use Rattle.op_trees.specs.Tree.{Tree, Truth, Number, Name as At, One, Two, Three, AllNames, renamed}
use Rattle.op_trees.specs.Seen.{Seen, seen, seen_through, known, known_names, looked_up}
use Rattle.op_trees.specs.SeenLaws.{names_then, seen_agree, seen_agree_on, seen-renamed, seen-written_out}
use Rattle.op_trees.specs.Types.{type_in, type_through, types_looked_up}
use Rattle.op_trees.specs.TypeLaws.{type_agree, type_agree_on, type-renamed, type-written_out}
use Rattle.prism_tree.specs.Operators.{prism_meaning}
use Rattle.prism_tree.specs.Syntax.{Expression, File}
use Rattle.prism_tree.specs.Grammar.{unquoted}
use Rattle.prism_names.specs.Names.{formula_body, reading}
use Rattle.prism_names.specs.Order as plain
use Rattle.basics.specs.Options.{IfAny}
use Rattle.prism_check.specs.TypeFaults.{types, declared_types}
use Rattle.prism_check.proofs.TypeOrder.{types_read}
use Rattle.prop_grammar.specs.Grammar.{has_quotes}
use Rattle.prop_trees.specs.Trees.{Name}
use Rattle.prop_trees.specs.Names.{marked, Meant, of_model, is_initial, is_deadlock, nothing, meant, initial_name, deadlock_name, is_given_label, filed_label, filed_name}
use Rattle.prop_trees.specs.PrismFaults.{name_types}
use Rattle.prop_trees.specs.Agree.{PrismEnvironment, truth, prism_seen}
use Rattle.prop_to_jani.specs.ToJani.{body_meant, body_of, whole}
use Rattle.prop_to_jani.proofs.Judged.{IsJudged, IsPlain}
use Rattle.prop_to_jani.proofs.Renaming.{HasBodyOf, written_out-renamed}

-- ---- names

-- what a written name is: a label that every model has, another label, or another name
pub data Written (x : Name) : Type 0 where
  given_initial : has_quotes x ≡ true → filed_name x ≡ initial_name → Written x
  given_deadlock : has_quotes x ≡ true → filed_name x ≡ deadlock_name → Written x
  a_label : has_quotes x ≡ true → is_given_label (unquoted x) ≡ false → filed_name x ≡ marked x → Written x
  a_value : has_quotes x ≡ false → filed_name x ≡ marked x → Written x

quoted_name : (x : Name) → has_quotes x ≡ true → filed_name x ≡ filed_label x (unquoted x)
quoted_name x q = ap (λ (b : Bool). if b then filed_label x (unquoted x) else marked x) q

pub written : (x : Name) → Written x
written x = by_quotes (has_quotes x) refl
  where
    by_tests : (b c : Bool) → bytes_eq (unquoted x) initial_name ≡ b → bytes_eq (unquoted x) deadlock_name ≡ c → has_quotes x ≡ true → Written x
    by_tests true c e f q =
        given_initial q (quoted_name x q ∙ ap₂ (λ (s t : Bool). if s || t then unquoted x else marked x) e f ∙ bytes_eq-true (unquoted x) initial_name e)
    by_tests false true e f q =
        given_deadlock q (quoted_name x q ∙ ap₂ (λ (s t : Bool). if s || t then unquoted x else marked x) e f ∙ bytes_eq-true (unquoted x) deadlock_name f)
    by_tests false false e f q =
        a_label q (ap₂ (λ s t. s || t) e f) (quoted_name x q ∙ ap₂ (λ (s t : Bool). if s || t then unquoted x else marked x) e f)

    by_quotes : (b : Bool) → has_quotes x ≡ b → Written x
    by_quotes true q = by_tests (bytes_eq (unquoted x) initial_name) (bytes_eq (unquoted x) deadlock_name) refl refl q
    by_quotes false q = a_value q (ap (λ (b : Bool). if b then filed_label x (unquoted x) else marked x) q)

-- what is asked of the name that a written name is filed as
pub as_filed : {A : Type 0} (f : Meant → A) (x y : Name) → filed_name x ≡ y → f (meant (filed_name x)) ≡ f (meant y)
as_filed f x y e = ap (λ (z : Name). f (meant z)) e

-- ---- trees that are renamed alike
renamed_agree_on : {O : Type 0} (f g : Name → Name) (t : Tree O) → AllNames (λ x. f x ≡ g x) t → renamed f t ≡ renamed g t
renamed_agree_on f g (Truth at b) h = refl
renamed_agree_on f g (Number at d) h = refl
renamed_agree_on f g (At at x) h = ap (At at) h
renamed_agree_on f g (One at o a) h = ap (One at o) (renamed_agree_on f g a h)
renamed_agree_on f g (Two at o a b) h = ap₂ (Two at o) (renamed_agree_on f g a h.0) (renamed_agree_on f g b h.1)
renamed_agree_on {O = O} f g (Three at o a b c) h =
    ap₂ {B = Tree O → Tree O} (λ r k. k r) (renamed_agree_on f g a h.0) (ap₂ (λ s t r. Three at o r s t) (renamed_agree_on f g b h.1) (renamed_agree_on f g c h.2))

plain_filed : (x : Name) → IsPlain x → marked x ≡ filed_name x
plain_filed x q = sym (ap (λ (b : Bool). if b then filed_label x (unquoted x) else marked x) q)

-- ---- formulas written out
module _ (file : File) (order : List Name) (is : IsJudged file order) where
  -- a quoted name is no formula's
  pub no_body : (x : Name) → has_quotes x ≡ true → formula_body file x ≡ None
  no_body x q = by_body (formula_body file x) refl
    where
      by_body : (o : Option Expression) → formula_body file x ≡ o → o ≡ None
      by_body None e = refl
      by_body (Some b) e = absurd (let n : has_quotes x ≡ false = is.plain x b e in cc)

  marked_body : (x : Name) (o : Option Expression) → IfAny (AllNames IsPlain) o → option_map (renamed marked) o ≡ option_map (renamed filed_name) o
  marked_body x None p = refl
  marked_body x (Some b) p = ap Some (renamed_agree_on marked filed_name b (names_then IsPlain (λ y. marked y ≡ filed_name y) plain_filed b p))

  has_body : (x : Name) → HasBodyOf filed_name (body_of file) (formula_body file) x
  has_body x = by_case (written x)
    where
      no_filed : has_quotes x ≡ true → None ≡ option_map (renamed filed_name) (formula_body file x)
      no_filed q = sym (ap (option_map (renamed filed_name)) (no_body x q))

      by_case : Written x → body_of file (filed_name x) ≡ option_map (renamed filed_name) (formula_body file x)
      by_case (given_initial q e) = as_filed (body_meant file) x initial_name e ∙ no_filed q
      by_case (given_deadlock q e) = as_filed (body_meant file) x deadlock_name e ∙ no_filed q
      by_case (a_label q g e) = as_filed (body_meant file) x (marked x) e ∙ ap (option_map (renamed marked)) (no_body x q) ∙ no_filed q
      by_case (a_value q e) = as_filed (body_meant file) x (marked x) e ∙ marked_body x (formula_body file x) (is.bodies x)

  -- a filed expression written out is the expression written out and then filed
  pub whole_filed : (e : Expression) → whole file (renamed filed_name e) ≡ renamed filed_name (plain.whole file e)
  whole_filed e = written_out-renamed filed_name (body_of file) (formula_body file) has_body (length file.formulas) e

  -- ---- what is seen
  module _ (env : PrismEnvironment) where
    -- what a name is seen as where formulas are written out
    abbrev pub model_seen : Name → Seen
    model_seen x = if has_quotes x then known (env.label (unquoted x)) else known (env.value x)

    abbrev pub whole_seen : Meant → Seen
    whole_seen (of_model x) = model_seen x
    whole_seen is_initial = known (truth env.initial)
    whole_seen is_deadlock = known (truth env.deadlock)
    whole_seen nothing = known None

    base : Name → Seen
    base x = whole_seen (meant (filed_name x))

    target : Name → Seen
    target x = prism_seen file env (meant (filed_name x))

    bodiless : (n : ℕ) (names : Name → Seen) (x : Name) → formula_body file x ≡ None → looked_up prism_meaning (formula_body file) n names x ≡ names x
    bodiless zero names x e = refl
    bodiless (suc n) names x e = ap (λ (o : Option Expression). seen_through prism_meaning o (looked_up prism_meaning (formula_body file) n names) (names x)) e

    plain_base : (x : Name) → IsPlain x → base x ≡ known (env.value x)
    unfolding base
    plain_base x q = as_filed whole_seen x (marked x) (sym (plain_filed x q)) ∙ ap (λ (b : Bool). if b then known (env.label (unquoted x)) else known (env.value x)) q

    looked : (n : ℕ) (x : Name) → IsPlain x → looked_up prism_meaning (formula_body file) n base x ≡ looked_up prism_meaning (formula_body file) n (known_names env.value) x
    looked zero x q = plain_base x q
    looked (suc n) x q = by_body (looked n) (formula_body file x) (is.bodies x)
      where
        by_body : ((y : Name) → IsPlain y → looked_up prism_meaning (formula_body file) n base y ≡ looked_up prism_meaning (formula_body file) n (known_names env.value) y) →
            (o : Option Expression) → IfAny (AllNames IsPlain) o →
            seen_through prism_meaning o (looked_up prism_meaning (formula_body file) n base) (base x)
            ≡ seen_through prism_meaning o (looked_up prism_meaning (formula_body file) n (known_names env.value)) (known (env.value x))
        by_body ih None p = plain_base x q
        by_body ih (Some b) p = seen_agree_on prism_meaning b _ _ (names_then IsPlain _ ih b p)

    -- each name is seen alike, whether formulas are looked up or written out
    name_seen : (x : Name) → looked_up prism_meaning (formula_body file) (length file.formulas) base x ≡ target x
    unfolding base target reading
    name_seen x = by_case (written x)
      where
        quoted_seen : has_quotes x ≡ true → model_seen x ≡ (if has_quotes x then known (env.label (unquoted x)) else reading file (known_names env.value) x)
        quoted_seen q =
            ap (λ (b : Bool). if b then known (env.label (unquoted x)) else known (env.value x)) q
            ∙ sym (ap (λ (b : Bool). if b then known (env.label (unquoted x)) else reading file (known_names env.value) x) q)

        by_case : Written x → looked_up prism_meaning (formula_body file) (length file.formulas) base x ≡ target x
        by_case (given_initial q e) =
            bodiless (length file.formulas) base x (no_body x q) ∙ as_filed whole_seen x initial_name e ∙ sym (as_filed (prism_seen file env) x initial_name e)
        by_case (given_deadlock q e) =
            bodiless (length file.formulas) base x (no_body x q) ∙ as_filed whole_seen x deadlock_name e ∙ sym (as_filed (prism_seen file env) x deadlock_name e)
        by_case (a_label q g e) =
            bodiless (length file.formulas) base x (no_body x q) ∙ as_filed whole_seen x (marked x) e ∙ quoted_seen q ∙ sym (as_filed (prism_seen file env) x (marked x) e)
        by_case (a_value q e) =
            looked (length file.formulas) x q
            ∙ sym (ap (λ (b : Bool). if b then known (env.label (unquoted x)) else reading file (known_names env.value) x) q)
            ∙ sym (as_filed (prism_seen file env) x (marked x) e)

    -- so an expression is seen alike where its formulas are written out
    pub whole_seen_alike : (e : Expression) →
        seen prism_meaning (whole file (renamed filed_name e)) (λ x. whole_seen (meant x)) ≡ seen prism_meaning (renamed filed_name e) (λ x. prism_seen file env (meant x))
    unfolding base target
    whole_seen_alike e =
        ap (λ t. seen prism_meaning t (λ x. whole_seen (meant x))) (whole_filed e)
        ∙ seen-renamed prism_meaning filed_name (λ x. whole_seen (meant x)) (plain.whole file e)
        ∙ seen-written_out prism_meaning (formula_body file) base (length file.formulas) e
        ∙ seen_agree prism_meaning e _ _ name_seen
        ∙ sym (seen-renamed prism_meaning filed_name (λ x. prism_seen file env (meant x)) e)

  -- ---- types
  abbrev pub meant_type : Meant → Option Ty
  meant_type (of_model x) = name_types file x
  meant_type is_initial = Some T.Bool
  meant_type is_deadlock = Some T.Bool
  meant_type nothing = None

  -- a filed name has the type of the written one
  pub filed_type : (x : Name) → meant_type (meant (filed_name x)) ≡ name_types file x
  filed_type x = by_case (written x)
    where
      quoted_type : has_quotes x ≡ true → Some T.Bool ≡ name_types file x
      quoted_type q = sym (ap (λ (b : Bool). if b then Some T.Bool else types file x) q)

      by_case : Written x → meant_type (meant (filed_name x)) ≡ name_types file x
      by_case (given_initial q e) = as_filed meant_type x initial_name e ∙ quoted_type q
      by_case (given_deadlock q e) = as_filed meant_type x deadlock_name e ∙ quoted_type q
      by_case (a_label q g e) = as_filed meant_type x (marked x) e
      by_case (a_value q e) = as_filed meant_type x (marked x) e

  plain_type : (x : Name) → IsPlain x → name_types file x ≡ types file x
  plain_type x q = ap (λ (b : Bool). if b then Some T.Bool else types file x) q

  looked_type : (n : ℕ) (x : Name) → types_looked_up prism_meaning (formula_body file) n (name_types file) x ≡ name_types file x
  looked_type zero x = refl
  looked_type (suc n) x = by_body (looked_type n) (formula_body file x) refl (is.bodies x)
    where
      by_body : ((y : Name) → types_looked_up prism_meaning (formula_body file) n (name_types file) y ≡ name_types file y) → (o : Option Expression) → formula_body file x ≡ o → IfAny (AllNames IsPlain) o →
          type_through prism_meaning o (types_looked_up prism_meaning (formula_body file) n (name_types file)) (name_types file x) ≡ name_types file x
      by_body ih None e p = refl
      by_body ih (Some b) e p =
          type_agree prism_meaning b _ _ ih
          ∙ type_agree_on prism_meaning b (name_types file) (types file) (names_then IsPlain (λ y. name_types file y ≡ types file y) plain_type b p)
          ∙ sym (types_read file order is.ordered x ∙ ap (λ o. type_through prism_meaning o (types file) (declared_types file x)) e)
          ∙ sym (plain_type x (is.plain x b e))

  -- and an expression has its type where it is written out
  pub whole_typed : (e : Expression) → type_in prism_meaning (λ x. meant_type (meant x)) (whole file (renamed filed_name e)) ≡ type_in prism_meaning (name_types file) e
  whole_typed e =
      ap (type_in prism_meaning (λ x. meant_type (meant x))) (whole_filed e)
      ∙ type-renamed prism_meaning filed_name (λ x. meant_type (meant x)) (plain.whole file e)
      ∙ type_agree prism_meaning (plain.whole file e) _ _ filed_type
      ∙ type-written_out prism_meaning (formula_body file) (name_types file) (length file.formulas) e
      ∙ type_agree prism_meaning e _ _ (looked_type (length file.formulas))
