-- An image may be spelled, and its names are known, where its expression has the form of trees, and the new names of its names may
-- be spelled and are known.
use Rattle.std.specs.List.{flat_map}
use Rattle.std.proofs.Common.{refl, ap, ◌∙◌}
use Rattle.frac_core.specs.declared.decimal.Decimal.{Decimal}
use Rattle.frac_core.specs.Decimal.{is_normal}
use Rattle.op_trees.specs.Tree.{Truth, Number, Name as At, One, Two, Three, AllNames}
use Rattle.op_trees.specs.Names.{names_of}
use Rattle.process_core.specs.Ready.{Name}
use Rattle.prism_lex.specs.declared.token.TokenKind.TheVariants.{Ident}
use Rattle.prism_lex.specs.Tokens.{IsKind}
use Rattle.prism_tree.specs.declared.operator.PrismOp.{PrismOp}
use Rattle.prism_tree.specs.declared.operator.PrismOp.TheVariants as P
use Rattle.std.specs.Ordering.{int_eq}
use Rattle.std.specs.Prelude.{◌%◌, ◌≡◌, ℕ, List, [], ◌++◌, Bool, true, false, not, ◌&&◌, nat_eq, if◌then◌else◌, pos}
use Rattle.prism_tree.specs.Operators as prism
use Rattle.prism_tree.specs.Syntax as trees
use Rattle.prism_check.specs.NameFaults.{unless_known}
use Rattle.jani_table.specs.declared.operator.JaniOp.{JaniOp}
use Rattle.jani_table.specs.declared.operator.JaniOp.TheVariants as J
use Rattle.jani_table.specs.Operators as jani
use Rattle.jani_tree.specs.Form.{ExprForm}
use Rattle.jani_tree.specs.Syntax.{Expression}
use Rattle.bridge_io.specs.declared.reason.Named.{Named}
use Rattle.bridge_io.specs.declared.reason.Reason.TheVariants.{Unknown}
use Rattle.prism_translation.specs.Image.{prism_op, unsigned, literal, image}
use Rattle.prism_translation.specs.Parts.{counted}
use Rattle.std.proofs.lemmas.List.Concat.{flat_map-append}
use Rattle.std.proofs.lemmas.Bool.{and_parts}
use Rattle.basics.specs.Lists.{append_both, IsNotEmpty as HasItems}
use Rattle.name_rules.proofs.Plain.{fault_none}
use Rattle.prism_translation_laws.proofs.Good.{Good}

pub arity_kept : (o : JaniOp) → prism.arity (prism_op o) ≡ jani.arity o
arity_kept J.Ite = refl
arity_kept o = refl

-- ---- literals
pub unsigned_normal : (d : Decimal) → is_normal d ≡ true → is_normal (unsigned d) ≡ true
unsigned_normal d h = by_test (nat_eq d.digits 0) h
  where
    by_test : (b : Bool) → (if b then not d.negative && int_eq d.exponent (pos 0) else if d.real then not (nat_eq (d.digits % 10) 0) else int_eq d.exponent (pos 0)) ≡ true →
        (if b then not false && int_eq d.exponent (pos 0) else if d.real then not (nat_eq (d.digits % 10) 0) else int_eq d.exponent (pos 0)) ≡ true
    by_test true g = (and_parts (not d.negative) (int_eq d.exponent (pos 0)) g).1
    by_test false g = g

module _ (known : Name → Bool) where
  literal_good : (at : ℕ) (d : Decimal) → is_normal d ≡ true → Good known (literal at d)
  literal_good at d h = by_sign d.negative refl
    where
      by_sign : (b : Bool) → d.negative ≡ b → Good known (if b then One at P.Neg (Number at (unsigned d)) else Number at d)
      by_sign true e = ((refl, (unsigned_normal d h, refl)), refl)
      by_sign false e = ((h, e), refl)

  pub counted_good : (n : ℕ) → Good known (counted n)
  counted_good n = ((by_test (nat_eq n 0), refl), refl)
    where
      by_test : (b : Bool) → (if b then not false && int_eq (pos 0) (pos 0) else if false then not (nat_eq (n % 10) 0) else int_eq (pos 0) (pos 0)) ≡ true
      by_test true = refl
      by_test false = refl

  -- ---- expressions
  pub name_good : (at : ℕ) (x : Name) → IsKind x Ident → known x ≡ true → Good known (At at x)
  name_good at x k h = (k, append_both (unless_known known (record { name = x; at = at })) [] (fault_none (not (known x)) at Unknown (ap not h)) refl)

  clean_join : (xs ys : List Named) → flat_map (unless_known known) xs ≡ [] → flat_map (unless_known known) ys ≡ [] → flat_map (unless_known known) (xs ++ ys) ≡ []
  clean_join xs ys h k = flat_map-append (unless_known known) xs ys ∙ append_both (flat_map (unless_known known) xs) (flat_map (unless_known known) ys) h k

  pub two_good : (at : ℕ) (o : PrismOp) (a b : trees.Expression) → prism.arity o ≡ 2 → Good known a → Good known b → Good known (Two at o a b)
  two_good at o a b n g h = ((n, g.0, h.0), clean_join (names_of a) (names_of b) g.1 h.1)

  pub three_good : (at : ℕ) (o : PrismOp) (a b c : trees.Expression) → prism.arity o ≡ 3 → Good known a → Good known b → Good known c → Good known (Three at o a b c)
  three_good at o a b c n g h k =
      ((n, g.0, h.0, k.0), clean_join (names_of a) (names_of b ++ names_of c) g.1 (clean_join (names_of b) (names_of c) h.1 k.1))

  module _ (new : Name → Name) where
    -- it may be spelled, and is known
    abbrev pub GoodName : Name → Type 0
    GoodName x = IsKind (new x) Ident × (known (new x) ≡ true)

    pub image_good : (e : Expression) → (ExprForm HasItems) e → AllNames GoodName e → Good known (image new e)
    image_good (Truth at b) f n = (tt, refl)
    image_good (Number at d) f n = literal_good at d f
    image_good (At at x) f n = name_good at (new x) n.0 n.1
    image_good (One at o a) f n = let g = image_good a f.1 n in ((arity_kept o ∙ f.0, g.0), g.1)
    image_good (Two at o a b) f n = two_good at (prism_op o) (image new a) (image new b) (arity_kept o ∙ f.0) (image_good a f.1 n.0) (image_good b f.2 n.1)
    image_good (Three at o a b c) f n =
        three_good at (prism_op o) (image new a) (image new b) (image new c) (arity_kept o ∙ f.0) (image_good a f.1 n.0) (image_good b f.2 n.1) (image_good c f.3 n.2)
