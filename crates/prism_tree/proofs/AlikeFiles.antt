-- Lists of tokens that are alike spell the same files and have the same faults.
use Rattle.std.proofs.Common.{◌≡◌, ℕ, ◌<◌, suc, Bool, true, false, List, [], ◌∷◌, ◌++◌, length, refl, sym, ap, subst, ◌∙◌, inl, inr, length-append, arith}
use Rattle.std.specs.Prelude.{◌⊎◌, Contains}
use Rattle.std.proofs.lemmas.List.Elements.{Contains-append_left, Contains-append_right, Contains-append_cases, Contains-push, Contains-push_cases}
use Rattle.bridge_io.specs.declared.reason.Reason.{Reason}
use Rattle.prism_lex.specs.declared.token.TokenKind.{TokenKind}
use Rattle.prism_lex.specs.Tokens.{Lexeme}
use Rattle.prism_lex.specs.Alike.{is_named, Alike, AreAlike}
use Rattle.prism_tree.specs.Lang.{Begins}
use Rattle.prism_tree.specs.Grammar.{expr, int_too, file_over}
use Rattle.prism_tree.specs.Faults.{IsEarly, outer, file_within, IsSound, ItemCanStand, kind_words, left_out_words, left_out_functions, WouldBegin, another_kind, a_left_out_form, an_unbounded_variable, a_left_out_function, IsReason, too_deep, not_read, no_form, IsGrammarFault, at_token, at_end}
use Rattle.prism_tree.specs.AlikeLaws.{AlikeFiles, AlikeFilesWithin, AlikeFaults}
use Rattle.prism_tree.proofs.Moving.{Pairs, pairs_split, pairs_append, pairs_flip, pairs_self, pairs_one, Moves}
use Rattle.prism_tree.proofs.GrammarMoves.{the_same, expr_moves, int_too_moves, file_moves}

-- ---- tokens that are alike

pub alike_self : (t : Lexeme) → Alike t t
alike_self t = record { kind = refl; at = refl; text = λ e. refl }

pub alike_flip : (t u : Lexeme) → Alike t u → Alike u t
alike_flip t u a = record { kind = sym a.kind; at = sym a.at; text = λ e. sym (a.text (ap is_named a.kind ∙ e)) }

pub alike_trans : (t u v : Lexeme) → Alike t u → Alike u v → Alike t v
alike_trans t u v a b = record { kind = a.kind ∙ b.kind; at = a.at ∙ b.at; text = λ e. a.text e ∙ b.text (sym (ap is_named a.kind) ∙ e) }

pub pairs_alike : (ts us : List Lexeme) → AreAlike ts us → Pairs Alike ts us
pairs_alike [] [] p = tt
pairs_alike [] (u ∷ us) p = absurd p
pairs_alike (t ∷ ts) [] p = absurd p
pairs_alike (t ∷ ts) (u ∷ us) p = (p.0, pairs_alike ts us p.1)

pub alike_pairs : (ts us : List Lexeme) → Pairs Alike ts us → AreAlike ts us
alike_pairs [] [] p = tt
alike_pairs [] (u ∷ us) p = absurd p
alike_pairs (t ∷ ts) [] p = absurd p
alike_pairs (t ∷ ts) (u ∷ us) p = (p.0, alike_pairs ts us p.1)

pub flipped : (ts us : List Lexeme) → Pairs Alike ts us → Pairs Alike us ts
flipped ts us p = pairs_flip Alike Alike alike_flip ts us p

-- one more token
pub with_token : (us vs : List Lexeme) (t u : Lexeme) → Pairs Alike us vs → Alike t u → Pairs Alike (us ++ t ∷ []) (vs ++ u ∷ [])
with_token us vs t u p a = pairs_append Alike us (t ∷ []) vs (u ∷ []) p (a, tt)

-- ---- what the limit looks at

-- a token that is one of these, or stands in what follows
head_or : (y : Lexeme) (ys : List Lexeme) (x : Lexeme) → Contains (y ∷ ys) x → (y ≡ x) ⊎ Contains ys x
head_or y ys x c = go (Contains-append_cases (y ∷ []) ys x c)
  where
    none : (z : Lexeme) → Contains [] z ⊎ (y ≡ z) → (y ≡ z) ⊎ Contains ys z
    none z (inl n) = absurd (omega (arith, n.1))
    none z (inr e) = inl e

    go : Contains (y ∷ []) x ⊎ Contains ys x → (y ≡ x) ⊎ Contains ys x
    go (inl h) = none x (Contains-push_cases [] y x h)
    go (inr h) = inr h

-- The token of vs that is this one goes together with one of us.
pub partner : (us vs : List Lexeme) (u : Lexeme) → Pairs Alike us vs → Contains vs u → (t : Lexeme) × Contains us t × Alike t u
partner [] [] u p c = absurd (omega (arith, c.1))
partner [] (y ∷ vs) u p c = absurd p
partner (x ∷ us) [] u p c = absurd p
partner (x ∷ us) (y ∷ vs) u p c = go (head_or y vs u c) (λ d. partner us vs u p.1 d)
  where
    go : (y ≡ u) ⊎ Contains vs u → (Contains vs u → (t : Lexeme) × Contains us t × Alike t u) → (t : Lexeme) × Contains (x ∷ us) t × Alike t u
    go (inl e) later = (x, Contains-append_left (x ∷ []) us x (Contains-push [] x), subst (λ (l : Lexeme). Alike x l) e p.0)
    go (inr d) later = let q = later d in (q.0, Contains-append_right (x ∷ []) us q.0 q.1, q.2)

-- u is alike to t, and one of vs only where t is one of us
pub record Stands (us vs : List Lexeme) (t u : Lexeme) : Type 0 where
  pub alike : Alike t u
  pub only : Contains vs u → Contains us t

-- what stands at one place of lists that are alike
pub standing : (us vs ts rs : List Lexeme) → Pairs Alike ts rs → ((t : Lexeme) → Contains ts t → Contains us t) → Pairs (Stands us vs) ts rs
standing us vs [] [] p f = tt
standing us vs [] (y ∷ rs) p f = absurd p
standing us vs (x ∷ ts) [] p f = absurd p
standing us vs (x ∷ ts) (y ∷ rs) p f = (
  record { alike = p.0; only = λ c. f x (Contains-append_left (x ∷ []) ts x (Contains-push [] x)) },
  standing us vs ts rs p.1 (λ t c. f t (Contains-append_right (x ∷ []) ts t c)),
)

pub stand_alike : (us vs : List Lexeme) (t u : Lexeme) → Stands us vs t u → Alike t u
stand_alike us vs t u s = s.alike

-- a text that is longer than each of these tokens
abbrev pub longest : List Lexeme → List ℕ
longest [] = 0 ∷ []
longest (t ∷ ts) = t.text ++ longest ts

some_longest : (ts : List Lexeme) → 0 < length (longest ts)
some_longest [] = omega arith
some_longest (t ∷ ts) = omega (arith, some_longest ts, length-append t.text (longest ts))

longer : (ts : List Lexeme) (t : Lexeme) → Contains ts t → length t.text < length (longest ts)
longer [] t c = absurd (omega (arith, c.1))
longer (x ∷ ts) t c = go (head_or x ts t c) (λ d. longer ts t d)
  where
    go : (x ≡ t) ⊎ Contains ts t → (Contains ts t → length t.text < length (longest ts)) → length t.text < length (x.text ++ longest ts)
    go (inl e) later = omega (arith, ap (λ (l : Lexeme). length l.text) e, some_longest ts, length-append x.text (longest ts))
    go (inr d) later = omega (arith, later d, length-append x.text (longest ts))

-- A token that goes on: a name stays what it is, and any other takes a text that none of vs has.
abbrev pub goes_as : List Lexeme → Lexeme → Bool → Lexeme
goes_as vs t true = t
goes_as vs t false = record { kind = t.kind; text = longest vs; at = t.at }

stays : (us vs : List Lexeme) (t : Lexeme) (b : Bool) → Pairs Alike us vs → is_named t.kind ≡ b → Stands us vs t (goes_as vs t b)
stays us vs t true p e = record {
  alike = alike_self t;
  only = λ c.
      let q = partner us vs t p c in
      subst (λ (l : Lexeme). Contains us l) (the_same q.0 t q.2 (ap is_named q.2.kind ∙ e)) q.1;
}
stays us vs t false p e = record {
  alike = record { kind = refl; at = refl; text = λ n. absurd (true_not (sym n ∙ e)) };
  only = λ c. absurd (omega (arith, longer vs (goes_as vs t false) c));
}
  where
    true_not : true ≡ false → ⊥
    true_not x = absurd cc

abbrev pub going : List Lexeme → List Lexeme → List Lexeme
going vs [] = []
going vs (t ∷ w) = goes_as vs t (is_named t.kind) ∷ going vs w

pub go_on : (us vs w : List Lexeme) → Pairs Alike us vs → Pairs (Stands us vs) w (going vs w)
go_on us vs [] p = tt
go_on us vs (t ∷ w) p = (stays us vs t (is_named t.kind) p refl, go_on us vs w p)

-- ---- expressions within the limit

-- the token of w that goes together with one at a place of v
pub opposite : (R : Lexeme → Lexeme → Type 0) (w a b : List Lexeme) (u : Lexeme) → Pairs R w (a ++ u ∷ b) →
    (c d : List Lexeme) × (t : Lexeme) × (w ≡ c ++ t ∷ d) × R t u × (length c ≡ length a)
opposite R [] [] b u p = absurd p
opposite R (t ∷ w) [] b u p = ([], w, t, refl, p.0, refl)
opposite R [] (x ∷ a) b u p = absurd p
opposite R (t ∷ w) (x ∷ a) b u p =
    let q = opposite R w a b u p.1 in
    (t ∷ q.0, q.1, q.2, ap (λ (l : List Lexeme). t ∷ l) q.3, q.4, ap suc q.5)

pub early_moves : (us vs w v : List Lexeme) → Pairs (Stands us vs) w v → IsEarly us w → IsEarly vs v
early_moves us vs w v r h a b u e c =
    let q = opposite (Stands us vs) w a b u (subst (λ (l : List Lexeme). Pairs (Stands us vs) w l) e r) in
    subst (λ (n : ℕ). n < 1024) q.5 (h q.0 q.1 q.2 q.3 (q.4.only c))

pub outer_moves : (us vs : List Lexeme) → Moves (Stands us vs) (outer us) (outer vs)
unfolding outer
outer_moves us vs = record {
  moves = λ w v e r p.
      ((expr_moves (Stands us vs) (stand_alike us vs)).moves w v e r p.0, early_moves us vs w v r p.1);
}

-- ---- files

plain_file : (unbounded : Bool) (end : ℕ) → Moves Alike (file_over expr (int_too unbounded) end) (file_over expr (int_too unbounded) end)
plain_file b end = file_moves Alike (λ t u a. a) expr expr (int_too b) (expr_moves Alike (λ t u a. a)) (int_too_moves Alike (λ t u a. a) b) end

within_moves : (us vs : List Lexeme) (end : ℕ) → Moves (Stands us vs) (file_within end us) (file_within end vs)
within_moves us vs end =
    file_moves (Stands us vs) (stand_alike us vs) (outer us) (outer vs) (int_too false) (outer_moves us vs) (int_too_moves (Stands us vs) (stand_alike us vs) false) end

pub alike_files : AlikeFiles
alike_files end ts us x p h = (plain_file false end).moves ts us x (pairs_alike ts us p) h

pub alike_within : AlikeFilesWithin
alike_within end ts us x p h =
    (within_moves ts us end).moves ts us x (standing ts us ts us (pairs_alike ts us p) (λ t c. c)) h

-- ---- faults

begins_moves : (unbounded : Bool) (end : ℕ) (us vs : List Lexeme) → Pairs Alike us vs →
    Begins (file_over expr (int_too unbounded) end) us → Begins (file_over expr (int_too unbounded) end) vs
begins_moves b end us vs p s =
    (s.0, s.1, (plain_file b end).moves (us ++ s.0) (vs ++ s.0) s.1 (pairs_append Alike us s.0 vs s.0 p (pairs_self Alike alike_self s.0)) s.2)

sound_moves : (end : ℕ) (us vs : List Lexeme) → Pairs Alike us vs → IsSound end us → IsSound end vs
sound_moves end us vs p s = (
  going vs s.0,
  s.1,
  (within_moves us vs end).moves (us ++ s.0) (vs ++ going vs s.0) s.1
      (pairs_append (Stands us vs) us s.0 vs (going vs s.0) (standing us vs us vs p (λ t c. c)) (go_on us vs s.0 p)) s.2,
)

item_moves : (end : ℕ) (us vs : List Lexeme) → Pairs Alike us vs → ItemCanStand end us → ItemCanStand end vs
item_moves end us vs p h t e = begins_moves false end (us ++ t ∷ []) (vs ++ t ∷ []) (with_token us vs t t p (alike_self t)) (h t e)

would_move : (end : ℕ) (us vs : List Lexeme) (t u : Lexeme) (r : Reason) → Pairs Alike us vs → Alike t u → WouldBegin end us t r → WouldBegin end vs u r
would_move end us vs t u r p a (another_kind c h) = another_kind (subst (λ (k : TokenKind). Contains kind_words k) a.kind c) (item_moves end us vs p h)
would_move end us vs t u r p a (a_left_out_form c) = a_left_out_form (subst (λ (k : TokenKind). Contains left_out_words k) a.kind c)
would_move end us vs t u r p a (an_unbounded_variable e b) =
    an_unbounded_variable (sym a.kind ∙ e) (begins_moves true end (us ++ t ∷ []) (vs ++ u ∷ []) (with_token us vs t u p a) b)
would_move end us vs t u r p a (a_left_out_function e before s i k c) =
    let q = pairs_split Alike before (s ∷ []) vs (subst (λ (l : List Lexeme). Pairs Alike l vs) i p) in
    let o = pairs_one Alike s q.1 q.4 in
    let b = o.2 in
    a_left_out_function (sym a.kind ∙ e) q.0 o.0 (q.2 ∙ ap (λ (l : List Lexeme). q.0 ++ l) o.1) (sym b.kind ∙ k)
    (subst (λ (w : List ℕ). Contains left_out_functions w) (b.text (ap is_named k)) c)

reason_moves : (end : ℕ) (us vs : List Lexeme) (t u : Lexeme) (r : Reason) → Pairs Alike us vs → Alike t u → IsReason end us t r → IsReason end vs u r
reason_moves end us vs t u r p a (too_deep b) = too_deep (begins_moves false end (us ++ t ∷ []) (vs ++ u ∷ []) (with_token us vs t u p a) b)
reason_moves end us vs t u s p a (not_read r n w) =
    not_read r (λ b. n (begins_moves false end (vs ++ u ∷ []) (us ++ t ∷ []) (flipped _ _ (with_token us vs t u p a)) b)) (would_move end us vs t u r p a w)
reason_moves end us vs t u r p a (no_form n w) =
    no_form (λ b. n (begins_moves false end (vs ++ u ∷ []) (us ++ t ∷ []) (flipped _ _ (with_token us vs t u p a)) b))
    (λ q h. w q (would_move end vs us u t q (flipped us vs p) (alike_flip t u a) h))

pub alike_faults : AlikeFaults
alike_faults end ts vs f l (at_token us rest t e s n i r) =
    let q = pairs_split Alike us (t ∷ rest) vs (subst (λ (x : List Lexeme). Pairs Alike x vs) e (pairs_alike ts vs l)) in
    go q.0 q.1 q.2 q.3 q.4
  where
    go : (us' more : List Lexeme) → vs ≡ us' ++ more → Pairs Alike us us' → Pairs Alike (t ∷ rest) more → IsGrammarFault end vs f
    go us' [] d p q = absurd q
    go us' (u ∷ more) d p q =
        at_token us' more u d (sound_moves end us us' p s)
        (λ b. n (sound_moves end (us' ++ u ∷ []) (us ++ t ∷ []) (flipped _ _ (with_token us us' t u p q.0)) b))
        (i ∙ q.0.at) (reason_moves end us us' t u f.reason p q.0 r)
alike_faults end ts vs f l (at_end s n e r) =
    at_end (sound_moves end ts vs (pairs_alike ts vs l) s) (λ x h. n x ((plain_file false end).moves vs ts x (flipped ts vs (pairs_alike ts vs l)) h)) e r
