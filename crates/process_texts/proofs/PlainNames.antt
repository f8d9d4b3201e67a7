-- A letter or _, then letters, digits and _: that is an identifier or a reserved word.
use Rattle.std.proofs.Common.{◌≡◌, ◌⊎◌, ◌↔◌, ℕ, Bool, true, false, List, [], ◌∷◌, Option, Some, None, refl, sym, ap, ◌∙◌, inl, inr, bytes_eq, if◌then◌else◌}
use Rattle.std.specs.List.{list_all}
use Rattle.std.specs.Cmp.Lexicographic.{bytes_decides}
use Rattle.basics.specs.Booleans.{first_true, second_true}
use Rattle.prism_lex.specs.declared.words.Reserved.{Reserved}
use Rattle.prism_lex.specs.declared.token.TokenKind.TheVariants.{Ident, Word}
use Rattle.prism_lex.specs.Words.{lookup, words}
use Rattle.prism_lex.specs.Tokens.{IsKind, is_name}
use Rattle.process_core.specs.Ready.{Name}

named : {A : Type 0} (table : List (List ℕ × A)) (x : Name) (r : A) → list_all (λ (e : List ℕ × A). is_name e.0) table ≡ true → lookup x table ≡ Some r → is_name x ≡ true
named [] x r h e = absurd cc
named (t ∷ table) x r h e = by_test (named table x r (second_true (is_name t.0) _ h)) (bytes_eq t.0 x) refl e
  where
    by_test : (lookup x table ≡ Some r → is_name x ≡ true) → (b : Bool) → b ≡ bytes_eq t.0 x → (if b then Some t.1 else lookup x table) ≡ Some r → is_name x ≡ true
    by_test ih true k l = ap is_name (sym ((bytes_decides t.0 x).0 (sym k))) ∙ first_true (is_name t.0) _ h
    by_test ih false k l = ih l

all_named : list_all (λ (e : List ℕ × Reserved). is_name e.0) words ≡ true
unfolding words
all_named = refl

there : (x : Name) → is_name x ≡ true → IsKind x Ident ⊎ ((r : Reserved) × IsKind x (Word r))
there x h = by_word (lookup x words) refl
  where
    by_word : (o : Option Reserved) → lookup x words ≡ o → IsKind x Ident ⊎ ((r : Reserved) × IsKind x (Word r))
    by_word None e = inl (h, e)
    by_word (Some r) e = inr (r, e)

back : (x : Name) → IsKind x Ident ⊎ ((r : Reserved) × IsKind x (Word r)) → is_name x ≡ true
back x (inl i) = i.0
back x (inr w) = named words x w.0 all_named w.1

pub name_is_plain : (x : Name) → (is_name x ≡ true) ↔ (IsKind x Ident ⊎ ((r : Reserved) × IsKind x (Word r)))
name_is_plain x = (there x, back x)
