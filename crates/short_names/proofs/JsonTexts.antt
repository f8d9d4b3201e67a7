-- Each string in a JSON value that bytes spell is UTF-8.
use Rattle.std.proofs.Common.{◌≡◌, ◌∙◌, ℕ, zero, suc, ◌<◌, Bool, true, List, [], ◌∷◌, map, sym, ap, subst, arith, inl, inr, IsUtf8}
use Rattle.std.specs.Prelude.{codes, Some}
use Rattle.std.specs.Char.{encode_utf8}
use Rattle.std.specs.Str.{is_utf8}
use Rattle.std.specs.List.{AllByRecursion as Each}
use Rattle.std.proofs.lemmas.Bool.Decides.{nat_tests}
use Rattle.std.proofs.lemmas.Str.{IsUtf8-append, IsUtf8-encode, IsUtf8-nil, is_utf8-from_IsUtf8}
use Rattle.decimal_json.specs.declared.tree.Json.{Json, fold-roll-Json}
use Rattle.decimal_json.specs.declared.tree.Json.TheVariants.{Null, Truth, Number, Str, Array, Object, rolls-Null, rolls-Truth, rolls-Number, rolls-Str, rolls-Array, rolls-Object}
use Rattle.decimal_json.specs.declared.tree.Json.TheFolds.{fold_out-Member}
use Rattle.decimal_json.specs.declared.tree.Json.TheOpen as layer
use Rattle.decimal_json.specs.declared.tree.Member.{Member}
use Rattle.decimal_json.specs.Characters.{IsCharacter, plain, letter, unit, pair, Characters, short, utf8_of}
use Rattle.decimal_json.specs.Lang.{Mark, Place, Lang, gives, ◌>>=◌, ◌or◌, many_with}
use Rattle.decimal_json.specs.Grammar.{next_item, listed, word, chars, string, string_value, number_value, same_state, also, array, member, object, value_with, value_at, value, text}
use Rattle.decimal_json.specs.Faults.{start, IsJson}
use Rattle.decimal_json.proofs.Characters.{low_scalar}
use Rattle.frac_core.specs.declared.decimal.Decimal.{Decimal}
use Rattle.bridge_io.specs.declared.reason.Named.{Named}
use Rattle.jani_table.specs.Node as n
use Rattle.jani_table.specs.Node.{Node, Nodes, no_nodes, more_nodes, Fields, no_fields, field, nodes_of, fields_of, node, named_node, node_step, member_step}

-- ---- strings
abbrev IsText : List ℕ → Type 0
IsText s = is_utf8 s ≡ true

short_low : (c x : ℕ) → short c ≡ Some x → x < 128
short_low c x h = grind (arith, nat_tests)

-- a character is one of UTF-8
is_scalar : (w : List ℕ) (x : ℕ) → IsCharacter w x → IsUtf8 (encode_utf8 x)
is_scalar w x (plain s a b c e) = IsUtf8-encode x s
is_scalar w x (letter c e h) = let l = short_low c x h in IsUtf8-encode x (low_scalar x (omega (arith, l)))
is_scalar w x (unit u s) = IsUtf8-encode x s
is_scalar w x (pair v z h l e a b c d f g k) = IsUtf8-encode x (grind (arith, nat_tests))

utf8_all : (xs w : List ℕ) → Characters xs w → IsUtf8 (utf8_of xs)
utf8_all [] w h = IsUtf8-nil
utf8_all (x ∷ xs) w h = IsUtf8-append (encode_utf8 x) (utf8_of xs) (is_scalar h.0 x h.3) (utf8_all xs h.1 h.4)

-- ---- values
abbrev mutual
  pub HasTexts : Node → Type 0
  HasTexts (n.null at) = Unit {0}
  HasTexts (n.truth at b) = Unit {0}
  HasTexts (n.number at d) = Unit {0}
  HasTexts (n.text at s) = IsText s
  HasTexts (n.array at vs) = HaveTexts vs
  HasTexts (n.object at ms close) = FieldsHaveTexts ms

  pub HaveTexts : Nodes → Type 0
  HaveTexts no_nodes = Unit {0}
  HaveTexts (more_nodes v vs) = HasTexts v × HaveTexts vs

  pub FieldsHaveTexts : Fields → Type 0
  FieldsHaveTexts no_fields = Unit {0}
  FieldsHaveTexts (field k v rest) = HasTexts v × FieldsHaveTexts rest

abbrev IsGood : Json → Type 0
IsGood x = HasTexts (node x)

abbrev IsGoodMember : Member → Type 0
IsGoodMember m = HasTexts (named_node m).1

null_good : (at : ℕ) → IsGood (Null at)
null_good at = subst HasTexts (sym (ap node (sym (rolls-Null at)) ∙ fold-roll-Json _ _ node_step member_step (layer.Null at))) tt

truth_good : (at : ℕ) (b : Bool) → IsGood (Truth at b)
truth_good at b = subst HasTexts (sym (ap node (sym (rolls-Truth at b)) ∙ fold-roll-Json _ _ node_step member_step (layer.Truth at b))) tt

number_good : (at : ℕ) (d : Decimal) → IsGood (Number at d)
number_good at d = subst HasTexts (sym (ap node (sym (rolls-Number at d)) ∙ fold-roll-Json _ _ node_step member_step (layer.Number at d))) tt

string_good : (at : ℕ) (s : List ℕ) → IsText s → IsGood (Str at s)
string_good at s h = subst HasTexts (sym (ap node (sym (rolls-Str at s)) ∙ fold-roll-Json _ _ node_step member_step (layer.Str at s))) h

items_good : (xs : List Json) → Each IsGood xs → HaveTexts (nodes_of (map node xs))
items_good [] h = tt
items_good (x ∷ xs) h = (h.0, items_good xs h.1)

members_good : (ms : List Member) → Each IsGoodMember ms → FieldsHaveTexts (fields_of (map named_node ms))
members_good [] h = tt
members_good (m ∷ ms) h = (h.0, members_good ms h.1)

array_good : (at : ℕ) (xs : List Json) → Each IsGood xs → IsGood (Array at xs)
array_good at xs h = subst HasTexts (sym (ap node (sym (rolls-Array at xs)) ∙ fold-roll-Json _ _ node_step member_step (layer.Array at xs))) (items_good xs h)

object_good : (at : ℕ) (ms : List Member) (close : ℕ) → Each IsGoodMember ms → IsGood (Object at ms close)
object_good at ms close h = subst HasTexts (sym (ap node (sym (rolls-Object at ms close)) ∙ fold-roll-Json _ _ node_step member_step (layer.Object at ms close))) (members_good ms h)

member_good : (m : Member) → IsGood m.value → IsGoodMember m
member_good m h = subst (λ (p : Named × Node). HasTexts p.1) (sym (fold_out-Member _ _ node_step member_step m)) h

-- ---- what a language spells
record Yields {A : Type 0} (P : A → Type 0) (L : Lang A) : Type 0 where
  yields : (p : Place) (w : List ℕ) (x : A) (q : Place) → L p w x q → P x

abbrev Any : {A : Type 0} → A → Type 0
Any x = Unit {0}

any_yields : {A : Type 0} (L : Lang A) → Yields Any L
any_yields L = record { yields = λ p w x q h. tt }

then_yields : {A B : Type 0} (Q : A → Type 0) (P : B → Type 0) (L : Lang A) (M : A → Lang B) → Yields Q L → ((x : A) → Q x → Yields P (M x)) → Yields P (L >>= M)
unfolding ◌>>=◌
then_yields Q P L M l m = record { yields = λ p w y r h. (m h.0 (l.yields p h.1 h.0 h.3 h.5)).yields h.3 h.2 y r h.6 }

past : {A B : Type 0} (P : B → Type 0) (L : Lang A) (M : A → Lang B) → ((x : A) → Yields P (M x)) → Yields P (L >>= M)
past P L M m = then_yields Any P L M (any_yields L) (λ x e. m x)

gives_yields : {A : Type 0} (P : A → Type 0) (a : A) → P a → Yields P (gives a)
unfolding gives
gives_yields P a e = record { yields = λ p w x q h. subst P (sym h.1) e }

or_yields : {A : Type 0} (P : A → Type 0) (L M : Lang A) → Yields P L → Yields P M → Yields P (L or M)
unfolding ◌or◌
or_yields P L M l m = record { yields = λ p w x q h. elim h [ inl e ↦ l.yields p w x q e | inr e ↦ m.yields p w x q e ] }

many_yields : {S A : Type 0} (P : A → Type 0) (step : S → A → S) (L : S → Lang A) (s : S) → ((s : S) → Yields P (L s)) → Yields (Each P) (many_with step L s)
unfolding many_with
many_yields {S} {A} P step L s l = record { yields = λ p w xs q h. walk xs s p w q h }
  where
    walk : (xs : List A) (s : S) (p : Place) (w : List ℕ) (q : Place) → many_with step L s p w xs q → Each P xs
    walk [] s p w q h = tt
    walk (x ∷ xs) s p w q h = ((l s).yields p h.0 x h.2 h.4, walk xs (step s x) h.2 h.1 q h.5)

next_item_yields : {S A : Type 0} (P : A → Type 0) (L : S → Lang A) (s : S) → Yields P (L s) → Yields P (next_item L s)
unfolding next_item
next_item_yields P L s l = past P _ _ (λ _. past P _ _ (λ _. then_yields P P _ _ l (λ x e. past P _ _ (λ _. gives_yields P x e))))

listed_yields : {S A : Type 0} (P : A → Type 0) (step : S → A → S) (L : S → Lang A) (s : S) → ((s : S) → Yields P (L s)) → Yields (Each P) (listed step L s)
unfolding listed
listed_yields P step L s l = or_yields _ _ _ (gives_yields (Each P) [] tt)
    (then_yields P _ _ _ (l s) (λ x e. past _ _ _ (λ _. then_yields (Each P) _ _ _ (many_yields P step (next_item L) (step s x) (λ t. next_item_yields P L t (l t))) (λ xs f. gives_yields (Each P) (x ∷ xs) (e, f)))))

word_yields : (bytes : List ℕ) (make : ℕ → Json) → ((at : ℕ) → IsGood (make at)) → Yields IsGood (word bytes make)
unfolding word
word_yields bytes make e = past _ _ _ (λ at. past _ _ _ (λ _. gives_yields IsGood (make at) (e at)))

chars_yield : Yields IsText chars
unfolding chars
chars_yield = record { yields = λ p w s q h. let c = h.0 in subst IsText (sym c.2) (is_utf8-from_IsUtf8 (utf8_of c.0) (utf8_all c.0 w c.1)) }

string_yields : Yields IsText string
unfolding string
string_yields = past _ _ _ (λ _. then_yields IsText _ _ _ chars_yield (λ s h. past _ _ _ (λ _. gives_yields IsText s h)))

string_value_yields : Yields IsGood string_value
unfolding string_value
string_value_yields = past _ _ _ (λ at. then_yields IsText _ _ _ string_yields (λ s h. gives_yields IsGood (Str at s) (string_good at s h)))

number_value_yields : Yields IsGood number_value
unfolding number_value
number_value_yields = past _ _ _ (λ at. past _ _ _ (λ t. past _ _ _ (λ to. past _ _ _ (λ _. gives_yields IsGood _ (number_good at _)))))

module _ (k : ℕ) (V : Lang Json) (v : Yields IsGood V) where
  array_yields : Yields IsGood (array k V)
  unfolding array
  array_yields = past _ _ _ (λ at. past _ _ _ (λ _. past _ _ _ (λ _. past _ _ _ (λ _. then_yields (Each IsGood) _ _ _ (listed_yields IsGood same_state (λ _. V) tt (λ s. v))
      (λ xs e. past _ _ _ (λ _. gives_yields IsGood (Array at xs) (array_good at xs e)))))))

  member_yields : (keys : List (List ℕ)) → Yields IsGoodMember (member k V keys)
  unfolding member
  member_yields keys = past _ _ _ (λ at. past _ _ _ (λ s. past _ _ _ (λ to. past _ _ _ (λ _. past _ _ _ (λ _. past _ _ _ (λ _. past _ _ _ (λ _. then_yields IsGood _ _ _ v
      (λ x e. gives_yields IsGoodMember _ (member_good _ e)))))))))

  object_yields : Yields IsGood (object k V)
  unfolding object
  object_yields = past _ _ _ (λ at. past _ _ _ (λ _. past _ _ _ (λ _. past _ _ _ (λ _. then_yields (Each IsGoodMember) _ _ _ (listed_yields IsGoodMember also (member k V) [] member_yields)
      (λ ms e. past _ _ _ (λ close. past _ _ _ (λ _. gives_yields IsGood (Object at ms close) (object_good at ms close e))))))))

  value_with_yields : Yields IsGood (value_with k V)
  unfolding value_with
  value_with_yields = or_yields _ _ _ (or_yields _ _ _ (or_yields _ _ _ (or_yields _ _ _ (or_yields _ _ _ (or_yields _ _ _ (word_yields (codes "null") Null null_good) (word_yields (codes "true") (λ at. Truth at true) (λ at. truth_good at true)))
      (word_yields (codes "false") (λ at. Truth at _) (λ at. truth_good at _))) string_value_yields) array_yields) object_yields) number_value_yields

at_yields : (m k : ℕ) → Yields IsGood (value_at m k)
at_yields zero k = record { yields = λ p w x q h. absurd h }
at_yields (suc m) k = record { yields = λ p w x q h. (value_with_yields k (value_at m (suc k)) (at_yields m (suc k))).yields p w x q h }

value_yields : (k : ℕ) → Yields IsGood (value k)
unfolding value
value_yields k = record { yields = λ p w x q h. (at_yields h.0 k).yields p w x q h.1 }

text_yields : Yields IsGood text
unfolding text
text_yields = past _ _ _ (λ _. then_yields IsGood _ _ _ (value_yields 0) (λ x e. past _ _ _ (λ _. gives_yields IsGood x e)))

pub spelled_texts : (bytes : List ℕ) (x : Json) (tokens : List Mark) → IsJson bytes x tokens → HasTexts (node x)
spelled_texts bytes x tokens j = text_yields.yields start bytes x j.end j.spells
