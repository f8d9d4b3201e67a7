-- Expressions and operands that stand inside no other expression: of them, what is known of every one, and reading them with the
-- limit of 1,024 tokens.
use Rattle.std.proofs.Common.{◌≡◌, ℕ, zero, suc, ◌+◌, ◌<◌, ◌≤◌, Bool, List, [], ◌∷◌, ◌++◌, Option, Some, None, refl, sym, ap, subst, ◌∙◌, append_assoc, append-nil, length, arith, inl, inr}
use Rattle.std.proofs.lemmas.Bool.{cases_lt}
use Rattle.std.proofs.lemmas.List.{length-append, take-append-drop, length-take-le, take-map, length-map, nil_from_length}
use Rattle.std.proofs.lemmas.Result.{err_from_is_err_and}
use Rattle.std.proofs.Math.Seq.{drop-append_seam}
use Rattle.std.proofs.Math.ListN.{drop_of_length-le}
use Rattle.std.proofs.Math.Nat.{min-le_left, min-le_right, min-eq_left, min-eq_right}
use Rattle.std.specs.Prelude.{◌⊎◌, Contains, slice_index_or, take, drop, min, map, ◌-◌, Result, IsErr, IsErrAnd, IfErr}
use Rattle.prism_lex.specs.declared.token.TokenKind.{TokenKind}
use Rattle.prism_lex.specs.Tokens.{Lexeme}
use Rattle.prism_tree.specs.Syntax.{Expression}
use Rattle.prism_tree.specs.Lang.{Lang, Begins}
use Rattle.prism_tree.specs.Grammar.{prim, conditional, expr}
use Rattle.prism_tree.specs.Faults.{outer, IsEarly}
use Rattle.prism_exprs.specs.declared.tokens.Cause.{Cause}
use Rattle.prism_exprs.specs.declared.tokens.Cause.TheVariants as C
use Rattle.prism_exprs.specs.declared.tokens.Found.{Found}
use Rattle.prism_exprs.specs.declared.tokens.Tokens.{Tokens}
use Rattle.prism_exprs.specs.declared.tokens.Stop.{Stop}
use Rattle.prism_exprs.specs.declared.tokens.Stop.TheVariants.{Memory, At}
use Rattle.prism_exprs.specs.Kept.{seen, lexeme_at}
use Rattle.prism_exprs.specs.Reading.{Ends, next, Dead, Reads, Fails, Stops}
use Rattle.prism_exprs.specs.Levels.{more, goes_on, CanBegin}
use Rattle.prism_exprs.specs.Scope.{Scope, expressions, expressions_of, early, in_limit, prims, IsCounted, Halts, StopsIn, ParsesIn, IsWithin, IsPast, IsPlainStop}
use Rattle.prism_exprs.proofs.Laws.{IsOne, HasWord, Ends-next}
use Rattle.prism_exprs.proofs.Choice.{Opens, then_opens}
use Rattle.prism_exprs.proofs.Exprs.{expr_one, expr_word, expr-conditional, level_opens, prim_one}
use Rattle.prism_exprs.proofs.Moves.{Moves, Alike, alike_itself, alike_append, prim_moves, expr_moves}
pub use Rattle.prism_exprs.proofs.Occurring.{AllKinds, Within, in_expression, kinds_at, expr_kinds}

-- ---- tokens that are counted

-- an offset behind all of these
abbrev past : List Lexeme → ℕ
past [] = 0
past (t ∷ us) = suc (t.at + past us)

before_past : (us : List Lexeme) (t : Lexeme) (k : ℕ) → k < length us → slice_index_or us k t ≡ t → t.at < past us
before_past [] t k lt e = absurd (omega (arith, lt))
before_past (s ∷ us) t zero lt e = omega (arith, ap (λ (u : Lexeme). u.at) e)
before_past (s ∷ us) t (suc k) lt e = let n = before_past us t k (omega (arith, lt)) e in omega (arith, n)

-- the same tokens, at this offset
abbrev placed : ℕ → List Lexeme → List Lexeme
placed n [] = []
placed n (t ∷ w) = record { kind = t.kind; text = t.text; at = n } ∷ placed n w

placed_alike : (n : ℕ) (w : List Lexeme) → Alike w (placed n w)
placed_alike n [] = tt
placed_alike n (t ∷ w) = (refl, refl, placed_alike n w)

-- In a word whose tokens from some place on are at an offset of their own, none of these is.
placed_at : (n : ℕ) (u v a b : List Lexeme) (t : Lexeme) → u ++ placed n v ≡ a ++ t ∷ b → length u ≤ length a → t.at ≡ n
placed_at n [] [] [] b t e h = cc
placed_at n [] (s ∷ v) [] b t e h = cc
placed_at n [] [] (r ∷ a) b t e h = cc
placed_at n [] (s ∷ v) (r ∷ a) b t e h = placed_at n [] v a b t (cc) (omega arith)
placed_at n (s ∷ u) v [] b t e h = absurd (omega arith)
placed_at n (s ∷ u) v (r ∷ a) b t e h = placed_at n u v a b t (cc) (omega (arith, h))

early_placed : (us u v : List Lexeme) → length u ≤ 1024 → IsEarly us (u ++ placed (past us) v)
early_placed us u v h a b t e k = by_order (cases_lt (length a) (length u))
  where
    by_order : (length a < length u) ⊎ (length u ≤ length a) → length a < 1024
    by_order (inl p) = omega (arith, h, p)
    by_order (inr p) = let n = before_past us t k.0 k.1 k.2 in let m = placed_at (past us) u v a b t e p in absurd (omega (arith, n, m))

pub early_short : (us w : List Lexeme) → length w ≤ 1024 → IsEarly us w
early_short us w h a b t e k = omega (arith, h, ap length e, length-append a (t ∷ b))

-- ---- lists of tokens

-- a front that fails at its end is all of the list, or fails at a token
next_behind : (r behind other : List Lexeme) → (r ≡ [] → behind ≡ []) → next other ≡ next (r ++ behind) → next other ≡ next r
next_behind [] behind other k e = e ∙ ap next (k refl)
next_behind (t ∷ r) behind other k e = e

-- the parts of a list that is cut at two places
cut_twice : (a b w z : List Lexeme) → a ++ b ≡ w ++ z → length w ≤ length a → (c : List Lexeme) × (a ≡ w ++ c) × (z ≡ c ++ b)
cut_twice a b [] z e h = (a, refl, sym e)
cut_twice [] b (t ∷ w) z e h = absurd (omega arith)
cut_twice (s ∷ a) b (t ∷ w) z e h =
    let n = cut_twice a b w z (cc) (omega (arith, h)) in
    let i : s ≡ t = cc in
    (n.0, ap (λ (u : Lexeme). u ∷ a) i ∙ ap (λ (u : List Lexeme). t ∷ u) n.1, n.2)

-- the first tokens of these are the same
same_next : (c a b : List Lexeme) (t : Lexeme) → next (c ++ t ∷ a) ≡ next (c ++ t ∷ b)
same_next [] a b t = refl
same_next (s ∷ c) a b t = refl

seam : (ts : List Lexeme) (n : ℕ) → ts ≡ take n ts ++ drop n ts
seam ts n = sym (take-append-drop n ts)

length_taken : (ts : List Lexeme) (n : ℕ) → n ≤ length ts → length (take n ts) ≡ n
length_taken ts n h = length-take-le n ts h

-- what was read of the first n tokens, and how many these are
read_count : (word r front ts : List Lexeme) (n : ℕ) → front ≡ take n ts → n ≤ length ts → front ≡ word ++ r → n - length r ≡ length word
read_count word r front ts n e h p = omega (arith, ap length e, length_taken ts n h, ap length p, length-append word r)

-- the tokens behind
read_behind : (word r front ts : List Lexeme) (n : ℕ) → front ≡ take n ts → n ≤ length ts → front ≡ word ++ r → drop (n - length r) ts ≡ r ++ drop n ts
read_behind word r front ts n e h p =
    let whole : ts ≡ word ++ (r ++ drop n ts) = seam ts n ∙ ap (λ (u : List Lexeme). u ++ drop n ts) (sym e ∙ p) ∙ append_assoc word r (drop n ts) in
    ap (λ (k : ℕ). drop k ts) (read_count word r front ts n e h p) ∙ ap (λ (u : List Lexeme). drop (length word) u) whole ∙ drop-append_seam word (r ++ drop n ts)

-- Nothing stands behind the first n tokens, where these are not 1,025 and are read to their end.
none_behind : (word r front ts : List Lexeme) (n : ℕ) → front ≡ take n ts → n ≡ min (length ts) 1025 → front ≡ word ++ r → n - length r ≤ 1024 → r ≡ [] → drop n ts ≡ []
none_behind word r front ts n e h p k z =
    let zero_left = ap length z in
    let all : length ts ≤ n = by_order (cases_lt (length ts) 1025) in
    drop_of_length-le ts all
  where
    by_order : (length ts < 1025) ⊎ (1025 ≤ length ts) → length ts ≤ n
    by_order (inl m) = let i = min-eq_left {n = length ts} {m = 1025} (omega (arith, m)) in omega (arith, i, h)
    by_order (inr m) = let i = min-eq_right {n = 1025} {m = length ts} m in absurd (omega (arith, i, h, k, ap length z))

fewer : (ts : List Lexeme) (n : ℕ) → n ≡ min (length ts) 1025 → n ≤ length ts
fewer ts n h = let i = min-le_left (length ts) 1025 in omega (arith, i, h)

-- the token behind the first few, and those with it
next_token : (n : ℕ) (ts : List Lexeme) → n < length ts → (t : Lexeme) × (drop n ts ≡ t ∷ drop (suc n) ts) × (take (suc n) ts ≡ take n ts ++ t ∷ [])
next_token n [] h = absurd (omega (arith, h))
next_token zero (t ∷ ts) h = (t, refl, refl)
next_token (suc n) (t ∷ ts) h = let i = next_token n ts (omega (arith, h)) in (i.0, i.1, ap (λ (u : List Lexeme). t ∷ u) i.2)

-- ---- what is known of a language of expressions, with the limit too

-- Words of L are read in one way before what follows, their offsets do not matter, and In is L in each scope.
pub record IsRead (L : Lang Expression) (follow : TokenKind → Bool) (In : Scope → Lang Expression) : Type 1 where
  pub one : IsOne L follow
  pub moves : Moves L L
  pub within : (F : Lang Expression → Type 0) (s : Scope) → F (in_limit L s.counted) → F (In s)

module _ {L : Lang Expression} {follow : TokenKind → Bool} {In : Scope → Lang Expression} (known : IsRead L follow In) where
  early_one : (us : List Lexeme) → IsOne (early us L) follow
  unfolding early
  early_one us = record { one = λ w z v y a b p q. known.one.one w z v y a b p.0 q.0 }

  -- What begins a word and has at most 1,024 tokens begins one in which none of these tokens is a later one.
  early_begins : (us u : List Lexeme) → length u ≤ 1024 → Begins L u → Begins (early us L) u
  unfolding early
  early_begins us u h b =
      let v = placed (past us) b.0 in
      let n = known.moves.move (u ++ b.0) (u ++ v) b.1 (alike_append u u b.0 v (alike_itself u) (placed_alike (past us) b.0)) b.2 in
      (v, n.0, (n.1, early_placed us u b.0 h))

  limit_one : (c : Option (List Lexeme)) → IsOne (in_limit L c) follow
  limit_one None = known.one
  limit_one (Some us) = early_one us

  limit_word : HasWord L → (c : Option (List Lexeme)) → HasWord (in_limit L c)
  limit_word w None = w
  limit_word w (Some us) = early_begins us [] (omega arith) w

  pub one_in : (s : Scope) → IsOne (In s) follow
  one_in s = known.within (λ N. IsOne N follow) s (limit_one s.counted)

  pub word_in : HasWord L → (s : Scope) → HasWord (In s)
  word_in w s = known.within (λ N. HasWord N) s (limit_word w s.counted)

  -- ---- reading with the limit

  -- A word of at most 1,024 tokens is an expression in each scope.
  short_expression : (c : Option (List Lexeme)) (w : List Lexeme) (x : Expression) → length w ≤ 1024 → L w x → in_limit L c w x
  unfolding early
  short_expression None w x h p = p
  short_expression (Some us) w x h p = (p, early_short us w h)

  plain_expression : (c : Option (List Lexeme)) (w : List Lexeme) (x : Expression) → in_limit L c w x → L w x
  unfolding early
  plain_expression None w x p = p
  plain_expression (Some us) w x p = p.0

  expressions_begin : (c : Option (List Lexeme)) (u : List Lexeme) → length u ≤ 1024 → Begins L u → Begins (in_limit L c) u
  expressions_begin None u h b = b
  expressions_begin (Some us) u h b = early_begins us u h b

  -- what is read of the front of a list, and of all of it, where nothing comes behind a front that is read to its end
  front_ends : (r behind : List Lexeme) → Ends follow r → (r ≡ [] → behind ≡ []) → Ends follow (r ++ behind)
  front_ends [] behind e h = let F : List Lexeme → Type 0 = λ u. Ends follow u in subst F (sym (h refl)) tt
  front_ends (t ∷ r) behind e h = e

  outer_reads : (s : Scope) (ts front behind r : List Lexeme) (x : Expression) → ts ≡ front ++ behind → (p : Reads L follow front x r) → length p.word ≤ 1024 → (r ≡ [] → behind ≡ []) →
      Reads (In s) follow ts x (r ++ behind)
  outer_reads s ts front behind r x e p h k = known.within (λ N. Reads N follow ts x (r ++ behind)) s (record {
    word = p.word;
    parts = e ∙ ap (λ (u : List Lexeme). u ++ behind) p.parts ∙ append_assoc p.word r behind;
    spells = short_expression s.counted p.word x h p.spells;
    ends = front_ends r behind p.ends k;
  })

  outer_fails : (s : Scope) (ts front behind r : List Lexeme) → ts ≡ front ++ behind → (p : Fails L follow front r) → length p.before ≤ 1024 → (r ≡ [] → behind ≡ []) →
      Halts s C.Form (In s) follow ts (r ++ behind)
  outer_fails s ts front behind r e p h k = known.within (λ N. Halts s C.Form N follow ts (r ++ behind)) s (record {
    before = p.before;
    parts = e ∙ ap (λ (u : List Lexeme). u ++ behind) p.parts ∙ append_assoc p.before r behind;
    begins = expressions_begin s.counted p.before h p.begins;
    dead = λ i other w z x f g j m. p.dead other w z x (next_behind r behind other k f) g (plain_expression s.counted w x j) m;
    goes = λ i. absurd i;
  })

  -- ---- past the limit

  -- No expression that ends before this token stands at the front, since the front and the token begin a longer one.
  long_expression : (before w z other : List Lexeme) (t : Lexeme) (x : Expression) → Begins L (before ++ t ∷ []) → before ++ t ∷ other ≡ w ++ z → L w x → Ends follow z → length w ≤ length before → ⊥
  long_expression before w z other t x b e p h k =
      let n = cut_twice before (t ∷ other) w z e k in
      let y : List Lexeme = n.0 ++ t ∷ b.0 in
      let F : List Lexeme → Type 0 = λ u. Ends follow u in
      let ends : Ends follow y = Ends-next follow (n.0 ++ t ∷ other) y (same_next n.0 b.0 other t) (subst F n.2 h) in
      let all : w ++ y ≡ ((before ++ t ∷ []) ++ b.0) ++ [] =
      sym (append_assoc w n.0 (t ∷ b.0)) ∙ ap (λ (u : List Lexeme). u ++ t ∷ b.0) (sym n.1) ∙ sym (append_assoc before (t ∷ []) b.0) ∙ sym (append-nil _) in
      let m = known.one.one w y ((before ++ t ∷ []) ++ b.0) [] x b.1 p b.2 all ends tt in
      absurd (omega (arith, k, ap length (m.0 ∙ append_assoc before (t ∷ []) b.0), length-append before (t ∷ b.0)))

  -- the token number 1,025, where it is counted
  late_dead : (us before others : List Lexeme) (t : Lexeme) → length before ≡ 1024 → Begins L (before ++ t ∷ []) → Contains us t → Dead (early us L) follow before (t ∷ others)
  unfolding early
  late_dead us before others t h b k [] w z x f e p g = cc
  late_dead us before others t h b k (s ∷ other) w z x f e p g =
      let i : s ≡ t = cc in
      let F : Lexeme → Type 0 = λ u. before ++ u ∷ other ≡ w ++ z in
      let e' : before ++ t ∷ other ≡ w ++ z = subst F i e in
      by_order e' (cases_lt (length before) (length w))
    where
      late : (c : List Lexeme) → w ≡ before ++ c → t ∷ other ≡ c ++ z → length before < length w → ⊥
      late [] q r m = absurd (omega (arith, m, ap length q, length-append before []))
      late (d ∷ c) q r m =
          let i : d ≡ t = cc in
          let F : Lexeme → Type 0 = λ u. w ≡ before ++ u ∷ c in
          absurd (omega (arith, h, p.1 before c t (subst F i q) k))

      by_order : before ++ t ∷ other ≡ w ++ z → (length before < length w) ⊎ (length w ≤ length before) → ⊥
      by_order e' (inr m) = long_expression before w z other t x b e' p.0 g m
      by_order e' (inl m) =
          let n = cut_twice w z before (t ∷ other) (sym e') (omega (arith, m)) in
          late n.0 n.1 n.2 m

  outer_deep : (s : Scope) (ts before others : List Lexeme) (t : Lexeme) → ts ≡ before ++ t ∷ others → length before ≡ 1024 → Begins L (before ++ t ∷ []) →
      Halts s C.Deep (In s) follow ts (t ∷ others)
  outer_deep s ts before others t e h b = known.within (λ N. Halts s C.Deep N follow ts (t ∷ others)) s (record {
    before = before;
    parts = e;
    begins = expressions_begin s.counted before (omega (arith, h)) (t ∷ b.0, b.1, (let F : List Lexeme → Type 0 = λ u. L u b.1 in subst F (append_assoc before (t ∷ []) b.0) b.2));
    dead = dead s.counted;
    goes = λ i. (t, others, refl, (let F : Option (List Lexeme) → Type 0 = λ c. Begins (in_limit L c) (before ++ t ∷ []) in subst F (sym i) b));
  })
    where
      dead : (c : Option (List Lexeme)) → IsCounted c (t ∷ others) → Dead (in_limit L c) follow before (t ∷ others)
      dead None k = absurd k
      dead (Some us) k = late_dead us before others t h b k

  -- by the number of tokens that were read

  pub outer_reads_by : (s : Scope) (ts front r rest : List Lexeme) (x : Expression) (n : ℕ) → front ≡ take n ts → n ≡ min (length ts) 1025 → Reads L follow front x r → IsWithin (n - length r) ts rest → Reads (In s) follow ts x rest
  outer_reads_by s ts front r rest x n e h p w =
      let few = fewer ts n h in
      let count = read_count p.word r front ts n e few p.parts in
      let F : List Lexeme → Type 0 = λ u. Reads (In s) follow ts x u in
      subst F (sym (w.1 ∙ read_behind p.word r front ts n e few p.parts))
      (outer_reads s ts front (drop n ts) r x (seam ts n ∙ ap (λ (u : List Lexeme). u ++ drop n ts) (sym e)) p (omega (arith, w.0, count)) (none_behind p.word r front ts n e h p.parts w.0))

  pub outer_fails_by : (s : Scope) (ts front r rest : List Lexeme) (n : ℕ) → front ≡ take n ts → n ≡ min (length ts) 1025 → Fails L follow front r → IsWithin (n - length r) ts rest → Halts s C.Form (In s) follow ts rest
  outer_fails_by s ts front r rest n e h p w =
      let few = fewer ts n h in
      let count = read_count p.before r front ts n e few p.parts in
      let F : List Lexeme → Type 0 = λ u. Halts s C.Form (In s) follow ts u in
      subst F (sym (w.1 ∙ read_behind p.before r front ts n e few p.parts))
      (outer_fails s ts front (drop n ts) r (seam ts n ∙ ap (λ (u : List Lexeme). u ++ drop n ts) (sym e)) p (omega (arith, w.0, count)) (none_behind p.before r front ts n e h p.parts w.0))

  -- More than 1,024 tokens were read.
  deep_by : (s : Scope) (ts front word r : List Lexeme) (n : ℕ) (e : Stop) → front ≡ take n ts → n ≡ min (length ts) 1025 → front ≡ word ++ r → Begins L word → IsPast (n - length r) ts e → StopsIn s (In s) follow ts e
  deep_by s ts front word r n Memory e h p b w = tt
  deep_by s ts front word r n (At rest c) e h p b w =
      let few = fewer ts n h in
      let most = min-le_right (length ts) 1025 in
      let count = read_count word r front ts n e few p in
      let i = next_token 1024 ts (omega (arith, w.0, few)) in
      let full : n ≡ 1025 = omega (arith, w.0, most, h) in
      let read : word ≡ take 1024 ts ++ i.0 ∷ [] = all_of (omega (arith, w.0, full)) ∙ ap (λ (k : ℕ). take k ts) full ∙ i.2 in
      let F : List Lexeme → Type 0 = λ u. Begins L u in
      let G : List Lexeme → Type 0 = λ u. Halts s C.Deep (In s) follow ts u in
      let H : Cause → Type 0 = λ d. Halts s d (In s) follow ts (seen rest) in
      subst H (sym w.2) (subst G (sym (w.1 ∙ i.1)) (outer_deep s ts (take 1024 ts) (drop 1025 ts) i.0 (seam ts 1024 ∙ ap (λ (u : List Lexeme). take 1024 ts ++ u) i.1) (length_taken ts 1024 (omega (arith, full, few))) (subst F read b)))
    where
      all_of : length r ≡ 0 → word ≡ take n ts
      all_of z = sym (append-nil word) ∙ ap (λ (u : List Lexeme). word ++ u) (sym (nil_from_length r z)) ∙ sym p ∙ e

  pub outer_deep_read : (s : Scope) (ts front r : List Lexeme) (x : Expression) (n : ℕ) (e : Stop) → front ≡ take n ts → n ≡ min (length ts) 1025 → Reads L follow front x r → IsPast (n - length r) ts e → StopsIn s (In s) follow ts e
  outer_deep_read s ts front r x n e f h p w = deep_by s ts front p.word r n e f h p.parts ([], x, (let F : List Lexeme → Type 0 = λ u. L u x in subst F (sym (append-nil p.word)) p.spells)) w

  pub outer_deep_failed : (s : Scope) (ts front r : List Lexeme) (n : ℕ) (e : Stop) → front ≡ take n ts → n ≡ min (length ts) 1025 → Fails L follow front r → IsPast (n - length r) ts e → StopsIn s (In s) follow ts e
  outer_deep_failed s ts front r n e f h p w = deep_by s ts front p.before r n e f h p.parts p.begins w

  -- What is left of the front where reading it stopped is no longer than the front.
  pub left_fewer : (tokens rest : Tokens) (us : List Lexeme) (n : ℕ) → us ≡ take n (seen tokens) → n ≡ min (length (seen tokens)) 1025 → Fails L follow us (seen rest) → length rest.found.now ≤ n
  left_fewer tokens rest us n e h p =
      let few = fewer (seen tokens) n h in
      omega (arith, ap length e, length_taken (seen tokens) n few, ap length p.parts, length-append p.before (seen rest), length-map rest.found.now (lexeme_at rest.source.now.bytes.now rest.source.now.literals.now))

  -- what a stop at a token says
  pub stops_at : (ts : List Lexeme) (e : Stop) (r : Tokens) (c : Cause) → e ≡ At r c → Stops L follow ts e → Fails L follow ts (seen r)
  stops_at ts e r c h p = let F : Stop → Type 0 = λ u. Stops L follow ts u in subst F h p

-- ---- expressions, and operands

in_expressions : (F : Lang Expression → Type 0) (c : Option (List Lexeme)) → F (in_limit expr c) → F (expressions_of c)
unfolding outer early
in_expressions F None h = h
in_expressions F (Some us) h = h

pub expressions_read : IsRead expr goes_on expressions
expressions_read = record { one = expr_one; moves = expr_moves; within = λ F s h. in_expressions F s.counted h }

pub prims_read : IsRead (prim expr) (more 0) prims
prims_read = record { one = prim_one expr expr_one; moves = prim_moves expr_moves; within = λ F s h. h }

pub expr_opens : Opens expr (CanBegin 10)
unfolding conditional
expr_opens w x h = then_opens _ (CanBegin 10) (level_opens expr 10) w x (expr-conditional.to w x h)

limit_opens : (c : Option (List Lexeme)) → Opens (in_limit expr c) (CanBegin 10)
unfolding early
limit_opens None w x h = expr_opens w x h
limit_opens (Some us) w x h = expr_opens w x h.0

pub expressions_one : (s : Scope) → IsOne (expressions s) goes_on
expressions_one = one_in expressions_read

pub expressions_word : (s : Scope) → HasWord (expressions s)
expressions_word = word_in expressions_read expr_word

pub expressions_opens : (s : Scope) → Opens (expressions s) (CanBegin 10)
expressions_opens s = expressions_read.within (λ N. Opens N (CanBegin 10)) s (limit_opens s.counted)

-- ---- over kept tokens

pub front_taken : (tokens : Tokens) (front : List Found) (us : List Lexeme) (n : ℕ) → front ≡ take n tokens.found.now → us ≡ map (lexeme_at tokens.source.now.bytes.now tokens.source.now.literals.now) front → us ≡ take n (seen tokens)
front_taken tokens front us n e h =
    let f = lexeme_at tokens.source.now.bytes.now tokens.source.now.literals.now in
    h ∙ ap (λ (u : List Found). map f u) e ∙ sym (take-map f n tokens.found.now)

pub front_most : (tokens : Tokens) (n : ℕ) → n ≡ min (length tokens.found.now) 1025 → n ≡ min (length (seen tokens)) 1025
front_most tokens n e = e ∙ ap (λ (k : ℕ). min k 1025) (sym (length-map tokens.found.now (lexeme_at tokens.source.now.bytes.now tokens.source.now.literals.now)))

pub left_within : (rest : Tokens) (ts us : List Lexeme) (n : ℕ) → IsWithin (n - length rest.found.now) ts us → IsWithin (n - length (seen rest)) ts us
left_within rest ts us n h =
    let F : ℕ → Type 0 = λ k. IsWithin (n - k) ts us in
    subst F (sym (length-map rest.found.now (lexeme_at rest.source.now.bytes.now rest.source.now.literals.now))) h

pub left_past : (rest : Tokens) (ts : List Lexeme) (e : Stop) (n : ℕ) → IsPast (n - length rest.found.now) ts e → IsPast (n - length (seen rest)) ts e
left_past rest ts e n h =
    let F : ℕ → Type 0 = λ k. IsPast (n - k) ts e in
    subst F (sym (length-map rest.found.now (lexeme_at rest.source.now.bytes.now rest.source.now.literals.now))) h

-- What a function returned at a `?` is the stop that it met, in each scope.
pub leaves_in : {X A : Type 0} (view : X → A) (L : Scope → Lang A) (more : TokenKind → Bool) (ts : List Lexeme) (r : Result (X × Tokens) Stop) (e : Stop) → IsErr r × IsErrAnd r (λ x. x ≡ e) → ((s : Scope) → StopsIn s (L s) more ts e) →
    ParsesIn view L more ts r
leaves_in view L more ts r e h s =
    let p = err_from_is_err_and r h.1 in
    rw (p.1, p.2) s

-- ---- why reading stops

pub past_plain : (n : ℕ) (ts : List Lexeme) (e : Stop) → IsPast n ts e → IsPlainStop e
past_plain n ts Memory p = absurd p
past_plain n ts (At r c) p = let F : Cause → Type 0 = λ d. IsPlainStop (At r d) in subst F (sym p.2) tt

pub leaves_plain : {Y : Type 0} (r : Result Y Stop) (e : Stop) → IsErr r × IsErrAnd r (λ x. x ≡ e) → IsPlainStop e → IfErr r IsPlainStop
leaves_plain r e h p =
    let q = err_from_is_err_and r h.1 in
    rw (q.1, q.2) p
