-- Reading the front of a list, and parts that may be missing.
use Rattle.std.proofs.Common.{◌≡◌, Bool, true, false, List, [], ◌∷◌, ◌++◌, sym, ap, subst, ◌∙◌, inl, inr}
use Rattle.std.specs.Prelude.{◌⊎◌}
use Rattle.prism_lex.specs.declared.token.TokenKind.{TokenKind}
use Rattle.prism_lex.specs.Tokens.{Lexeme}
use Rattle.prism_tree.specs.Lang.{Lang, gives, ◌or◌}
use Rattle.prism_exprs.specs.Reading.{Ends, Fails}
use Rattle.prism_exprs.proofs.Laws.{IsOne, gives_word}
use Rattle.prism_exprs.proofs.Choice.{Opens, Barred, gives_barred, barred_fails, or_barred, or_word}

-- ---- nothing, or a part whose first token goes on

pub gives_or_one : {A : Type 0} (a : A) {M : Lang A} (P : TokenKind → Type 0) {more : TokenKind → Bool} → Opens M P → ((k : TokenKind) → P k → more k ≡ true) → IsOne M more → IsOne ((gives a) or M) more
unfolding ◌or◌ gives
gives_or_one {A} a {M} P {more} o again l = record { one = go }
  where
    apart : (w z v y : List Lexeme) (b : A) → w ≡ [] → M v b → w ++ z ≡ v ++ y → Ends more z → ⊥
    apart w z v y b g h e f =
        let n = o v b h in
        let q : z ≡ n.0 ∷ (n.1 ++ y) = ap (λ (u : List Lexeme). u ++ z) (sym g) ∙ e ∙ ap (λ (u : List Lexeme). u ++ y) n.2 in
        let F : List Lexeme → Type 0 = λ u. Ends more u in
        let no_more : more (n.0).kind ≡ false = subst F q f in
        let goes : more (n.0).kind ≡ true = again (n.0).kind n.3 in
        absurd cc

    go : (w z v y : List Lexeme) (b c : A) → ((w ≡ []) × (b ≡ a)) ⊎ M w b → ((v ≡ []) × (c ≡ a)) ⊎ M v c → w ++ z ≡ v ++ y → Ends more z → Ends more y → (w ≡ v) × (b ≡ c)
    go w z v y b c (inl g) (inl h) e i j = (g.0 ∙ sym h.0, g.1 ∙ sym h.1)
    go w z v y b c (inr g) (inr h) e i j = l.one w z v y b c g h e i j
    go w z v y b c (inl g) (inr h) e i j = absurd (apart w z v y c g.0 h e i)
    go w z v y b c (inr g) (inl h) e i j = absurd (apart v y w z b h.0 g (sym e) j)

-- Where what would go on stands next but does not, reading fails there.
pub gives_or_fails : {A : Type 0} (a : A) (M : Lang A) (more : TokenKind → Bool) (t : Lexeme) (rest : List Lexeme) → more t.kind ≡ true → Barred M more (t ∷ rest) → Fails ((gives a) or M) more (t ∷ rest) (t ∷ rest)
gives_or_fails a M more t rest h b = barred_fails _ more (t ∷ rest) (or_word _ _ (gives_word a)) (or_barred _ _ more (t ∷ rest) (gives_barred a more t rest h) b)
