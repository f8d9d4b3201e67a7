-- Lists of tokens that are alike spell the same properties and have the same faults.
use Rattle.std.proofs.Common.{◌≡◌, List, [], ◌∷◌, ◌++◌, length, None, arith, refl, sym, ap, subst, ◌∙◌}
use Rattle.std.specs.Prelude.{◌⊎◌, Contains}
use Rattle.bridge_io.specs.declared.reason.Reason.{Reason}
use Rattle.prism_lex.specs.declared.token.TokenKind.{TokenKind}
use Rattle.prism_lex.specs.declared.token.TokenKind.TheVariants as K
use Rattle.prism_lex.specs.declared.words.Reserved.TheVariants as W
use Rattle.prism_lex.specs.declared.symbols.Symbol.TheVariants as S
use Rattle.prism_lex.specs.Tokens.{Lexeme}
use Rattle.prism_lex.specs.Alike.{is_named, Alike}
use Rattle.prism_tree.specs.Lang.{Begins}
use Rattle.prism_tree.specs.Grammar.{expr, function_of}
use Rattle.prism_tree.specs.Faults.{outer}
use Rattle.prism_tree.proofs.Moving.{Pairs, pairs_split, pairs_append, pairs_self, pairs_one, Moves}
use Rattle.prism_tree.proofs.GrammarMoves.{expr_moves, prim_moves}
use Rattle.prism_tree.proofs.AlikeFiles.{alike_self, alike_flip, pairs_alike, flipped, with_token, Stands, standing, stand_alike, going, go_on, partner, opposite, early_moves, outer_moves}
use Rattle.prop_grammar.specs.Grammar.{name_kind, as_name}
use Rattle.prop_grammar.specs.Faults.{IsNoFunctionName, operand, outer_operand, file, file_within, BeginsProperties, left_out_words, query_words, IsInQuery, IsBehindUnbounded, IsLeftOut, a_left_out_form, a_nested_query, another_bound, IsReason, too_deep, left_out, no_form, IsGrammarFault, at_token, at_end}
use Rattle.prop_grammar.specs.AlikeLaws.{AlikeNames, AlikeFiles, AlikeFilesWithin, AlikeFaults}
use Rattle.prop_grammar.proofs.GrammarMoves.{properties_moves}

-- ---- quoted names as names

same_named : (k : TokenKind) → is_named (name_kind k) ≡ is_named k
same_named K.Ident = refl
same_named K.Quoted = refl
same_named (K.Word r) = refl
same_named (K.Number d) = refl
same_named (K.Symbol s) = refl
same_named K.End = refl

as_name_alike : (t u : Lexeme) → Alike t u → Alike (as_name t) (as_name u)
as_name_alike t u a = record { kind = ap name_kind a.kind; at = a.at; text = λ e. a.text (sym (same_named t.kind) ∙ e) }

pub alike_names : AlikeNames
alike_names [] [] p = tt
alike_names [] (u ∷ us) p = absurd p
alike_names (t ∷ ts) [] p = absurd p
alike_names (t ∷ ts) (u ∷ us) p = (as_name_alike t u p.0, alike_names ts us p.1)

-- ---- operands

no_function_moves : (R : Lexeme → Lexeme → Type 0) (alike : (t u : Lexeme) → R t u → Alike t u) (w v : List Lexeme) → Pairs R w v →
    IsNoFunctionName w → IsNoFunctionName v
no_function_moves R alike w v r n u e k =
    let q = opposite R w [] [] u (subst (λ (l : List Lexeme). Pairs R w l) e r) in
    go q.0 q.1 q.2 q.3 (alike q.2 u q.4) q.5 (subst (λ (l : List Lexeme). Pairs R w l) e r)
  where
    go : (c d : List Lexeme) (t : Lexeme) → w ≡ c ++ t ∷ d → Alike t u → length c ≡ 0 → Pairs R w (u ∷ []) → function_of u.text ≡ None
    go [] [] t i a z p = ap function_of (sym (a.text (ap is_named (a.kind ∙ k)))) ∙ n t i (a.kind ∙ k)
    go [] (x ∷ d) t i a z p = absurd (subst (λ (l : List Lexeme). Pairs R l (u ∷ [])) i p).1
    go (x ∷ c) d t i a z p = absurd (omega (arith, z))

module _ (R : Lexeme → Lexeme → Type 0) (alike : (t u : Lexeme) → R t u → Alike t u) where
  operand_moves : Moves R operand operand
  unfolding operand
  operand_moves = record { moves = λ w v e r p. ((prim_moves R alike expr (expr_moves R alike)).moves w v e r p.0, no_function_moves R alike w v r p.1) }

outer_operand_moves : (us vs : List Lexeme) → Moves (Stands us vs) (outer_operand us) (outer_operand vs)
unfolding outer_operand
outer_operand_moves us vs = record { moves = λ w v e r p. ((operand_moves (Stands us vs) (stand_alike us vs)).moves w v e r p.0, early_moves us vs w v r p.1) }

-- ---- files

plain_file : Moves Alike file file
plain_file = properties_moves Alike (λ t u a. a) expr expr operand operand (expr_moves Alike (λ t u a. a)) (operand_moves Alike (λ t u a. a))

within_moves : (us vs : List Lexeme) → Moves (Stands us vs) (file_within us) (file_within vs)
within_moves us vs =
    properties_moves (Stands us vs) (stand_alike us vs) (outer us) (outer vs) (outer_operand us) (outer_operand vs) (outer_moves us vs) (outer_operand_moves us vs)

pub alike_files : AlikeFiles
alike_files ts us x p h = plain_file.moves ts us x (pairs_alike ts us p) h

pub alike_within : AlikeFilesWithin
alike_within ts us x p h = (within_moves ts us).moves ts us x (standing ts us ts us (pairs_alike ts us p) (λ t c. c)) h

-- ---- faults

begins_moves : (us vs : List Lexeme) → Pairs Alike us vs → Begins file us → Begins file vs
begins_moves us vs p s = (s.0, s.1, plain_file.moves (us ++ s.0) (vs ++ s.0) s.1 (pairs_append Alike us s.0 vs s.0 p (pairs_self Alike alike_self s.0)) s.2)

sound_moves : (us vs : List Lexeme) → Pairs Alike us vs → BeginsProperties us → BeginsProperties vs
sound_moves us vs p s = (
  going vs s.0,
  s.1,
  (within_moves us vs).moves (us ++ s.0) (vs ++ going vs s.0) s.1
      (pairs_append (Stands us vs) us s.0 vs (going vs s.0) (standing us vs us vs p (λ t c. c)) (go_on us vs s.0 p)) s.2,
)

-- a token of a list that is alike to one without a kind does not have that kind
none_there : (k : TokenKind) (ts us : List Lexeme) → Pairs Alike ts us → ((t : Lexeme) → Contains ts t → t.kind ≡ k → ⊥) → (u : Lexeme) → Contains us u → u.kind ≡ k → ⊥
none_there k ts us p n u c e = let q = partner ts us u p c in n q.0 q.1 (q.2.kind ∙ e)

query_moves : (us vs : List Lexeme) → Pairs Alike us vs → IsInQuery us → IsInQuery vs
query_moves us vs p h =
    let q = pairs_split Alike h.before (h.bracket ∷ h.behind) vs (subst (λ (l : List Lexeme). Pairs Alike l vs) h.parts p) in
    go q.0 q.1 q.2 q.4
  where
    go : (before more : List Lexeme) → vs ≡ before ++ more → Pairs Alike (h.bracket ∷ h.behind) more → IsInQuery vs
    go before [] e q = absurd q
    go before (b ∷ behind) e q = record {
      before = before;
      bracket = b;
      behind = behind;
      parts = e;
      opens = sym q.0.kind ∙ h.opens;
      stays = none_there (K.Symbol S.RightBracket) h.behind behind q.1 h.stays;
    }

unbounded_moves : (us vs : List Lexeme) → Pairs Alike us vs → IsBehindUnbounded us → IsBehindUnbounded vs
unbounded_moves us vs p h =
    let q = pairs_split Alike h.0 (h.1 ∷ []) vs (subst (λ (l : List Lexeme). Pairs Alike l vs) h.2 p) in
    let o = pairs_one Alike h.1 q.1 q.4 in (
      q.0,
      o.0,
      q.2 ∙ ap (λ (l : List Lexeme). q.0 ++ l) o.1,
      subst (λ (k : TokenKind). (k ≡ K.Word W.GWord) ⊎ (k ≡ K.Word W.WWord)) o.2.kind h.3,
    )

left_out_moves : (us vs : List Lexeme) (t u : Lexeme) → Pairs Alike us vs → Alike t u → IsLeftOut us t → IsLeftOut vs u
left_out_moves us vs t u p a (a_left_out_form c) = a_left_out_form (subst (λ (k : TokenKind). Contains left_out_words k) a.kind c)
left_out_moves us vs t u p a (a_nested_query c q) = a_nested_query (subst (λ (k : TokenKind). Contains query_words k) a.kind c) (query_moves us vs p q)
left_out_moves us vs t u p a (another_bound e b) = another_bound (sym a.kind ∙ e) (unbounded_moves us vs p b)

reason_moves : (us vs : List Lexeme) (t u : Lexeme) (r : Reason) → Pairs Alike us vs → Alike t u → IsReason us t r → IsReason vs u r
reason_moves us vs t u r p a (too_deep b) = too_deep (begins_moves (us ++ t ∷ []) (vs ++ u ∷ []) (with_token us vs t u p a) b)
reason_moves us vs t u r p a (left_out n w) =
    left_out (λ b. n (begins_moves (vs ++ u ∷ []) (us ++ t ∷ []) (flipped _ _ (with_token us vs t u p a)) b)) (left_out_moves us vs t u p a w)
reason_moves us vs t u r p a (no_form n w) =
    no_form (λ b. n (begins_moves (vs ++ u ∷ []) (us ++ t ∷ []) (flipped _ _ (with_token us vs t u p a)) b))
    (λ h. w (left_out_moves vs us u t (flipped us vs p) (alike_flip t u a) h))

pub alike_faults : AlikeFaults
alike_faults end ts vs f l (at_token us rest t e s n i r) =
    let q = pairs_split Alike us (t ∷ rest) vs (subst (λ (x : List Lexeme). Pairs Alike x vs) e (pairs_alike ts vs l)) in
    go q.0 q.1 q.2 q.3 q.4
  where
    go : (us' more : List Lexeme) → vs ≡ us' ++ more → Pairs Alike us us' → Pairs Alike (t ∷ rest) more → IsGrammarFault end vs f
    go us' [] d p q = absurd q
    go us' (u ∷ more) d p q =
        at_token us' more u d (sound_moves us us' p s) (λ b. n (sound_moves (us' ++ u ∷ []) (us ++ t ∷ []) (flipped _ _ (with_token us us' t u p q.0)) b)) (i ∙ q.0.at)
        (reason_moves us us' t u f.reason p q.0 r)
alike_faults end ts vs f l (at_end s n e r) =
    at_end (sound_moves ts vs (pairs_alike ts vs l) s) (λ x h. n x (plain_file.moves vs ts x (flipped ts vs (pairs_alike ts vs l)) h)) e r
