-- Operands as they are read with the limit: which are bounds, and where one ends before a parenthesis.
use Rattle.std.proofs.Common.{◌≡◌, ℕ, zero, suc, ◌<◌, ◌≤◌, true, false, List, [], ◌∷◌, ◌++◌, Option, Some, None, refl, sym, ap, subst, ◌∙◌, arith, inl, inr, append-nil, append_assoc, length, map}
use Rattle.std.specs.Prelude.{◌⊎◌, if◌then◌else◌, Contains, Result, Ok, Err}
use Rattle.std.proofs.lemmas.List.{length-append, append_cancel_right}
use Rattle.std.proofs.lemmas.Bool.{cases_lt, or_parts, or_from}
use Rattle.std.proofs.lemmas.List.Elements.{Contains-append_left, Contains-push}
use Rattle.op_trees.specs.Tree.{Name}
use Rattle.prism_lex.specs.declared.token.TokenKind.{TokenKind}
use Rattle.prism_lex.specs.declared.token.TokenKind.TheVariants as K
use Rattle.prism_lex.specs.declared.symbols.Symbol.TheVariants as S
use Rattle.prism_lex.specs.Tokens.{Lexeme}
use Rattle.prism_tree.specs.declared.operator.PrismOp.{PrismOp}
use Rattle.prism_tree.specs.Syntax.{Expression}
use Rattle.prism_tree.specs.Lang.{token, token_with, gives, ◌>>=◌, ◌or◌, Begins}
use Rattle.prism_tree.specs.Grammar.{prim, expr, function_of, name_or_call, arguments, infix_of}
use Rattle.prism_tree.specs.Faults.{IsEarly}
use Rattle.prism_exprs.specs.declared.tokens.Cause.{Cause}
use Rattle.prism_exprs.specs.declared.tokens.Cause.TheVariants as C
use Rattle.prism_exprs.specs.declared.tokens.Stop.{Stop}
use Rattle.prism_exprs.specs.declared.tokens.Stop.TheVariants.{Memory, At}
use Rattle.prism_exprs.specs.declared.tokens.Tokens.{Tokens}
use Rattle.prism_exprs.specs.Kept.{seen}
use Rattle.prism_exprs.specs.Reading.{Ends, none, next, Dead, Reads, starts, is_kind}
use Rattle.prism_exprs.specs.Levels.{more, binds_below}
use Rattle.prism_exprs.specs.Scope.{Scope, early, in_limit, prims, IsStopped, Halts, StopsIn, ParsesIn, IsPlainStop}
use Rattle.prism_exprs.proofs.Laws.{IsOne, none_ends}
use Rattle.prism_exprs.proofs.Choice.{Same, same_reads}
use Rattle.prism_exprs.proofs.Exprs.{number_opens, truth_opens, parenthesised_opens, extremum_opens, arguments_opens}
use Rattle.prism_exprs.proofs.Outer.{early_short, one_in, prims_read}
use Rattle.prop_grammar.specs.Faults.{operand, outer_operand, IsNoFunctionName}
use Rattle.prop_grammar.specs.Grammar
use Rattle.prop_grammar.specs.Grammar.{IsOpen, function_name, function_name_of, is_name, named_if}
use Rattle.prop_reader.specs.Parts.{in_scope, operands, operands_of, opens, function_alone}
use Rattle.prism_items.specs.Files.{plain}
use Rattle.prism_items.proofs.Filing.{Cut, longer, shorter, cut, some_left}
use Rattle.prop_reader.proofs.Shut.{IsFunction, function_is, operands_one, operands_word, operand_of}
use Rattle.prop_reader.proofs.Bounding.{not_open}
use Rattle.prop_reader.proofs.Deciding.{not_alone, call_begins, opening_token, test_open, opened_test}
use Rattle.std.specs.Prelude.{◌-◌, take}
use Rattle.std.proofs.lemmas.List.{length-map, take-map}
use Rattle.std.proofs.Math.Seq.{take-append_seam}
use Rattle.prism_exprs.specs.declared.tokens.Found.{Found}
use Rattle.prism_exprs.specs.Kept.{lexeme_at}
use Rattle.prism_exprs.proofs.Symbols.{nothing_below}
use Rattle.op_trees.specs.declared.tree.Expr.{Expr}
use Rattle.op_trees.specs.Tree.{tree}
use Rattle.prop_reader.specs.Parts.{IsNameAlone}

-- ---- kinds that go on

pub more_opens : (us : List Lexeme) → Ends (more 0) us → Ends opens us
more_opens [] e = tt
more_opens (t ∷ us) e = (or_parts (opens t.kind) (binds_below 0 (infix_of t.kind)) e).0

pub opens_more : (us : List Lexeme) → Ends opens us → Ends (more 0) us
opens_more [] e = tt
opens_more (t ∷ us) e = or_from (opens t.kind) (binds_below 0 (infix_of t.kind)) e (nothing_below (infix_of t.kind))

-- ---- an operand is a bound, or the name of a function

no_name_by : (w : List Lexeme) (k : TokenKind) → (k ≡ K.Ident → ⊥) → ((t : Lexeme) × (u : List Lexeme) × (w ≡ t ∷ u) × (t.kind ≡ k)) → IsNoFunctionName w
no_name_by w k n o t e h =
    let i : o.0 ∷ o.1 ≡ t ∷ [] = sym o.2 ∙ e in
    let j : o.0 ≡ t = cc in
    absurd (n (sym o.3 ∙ ap (λ (u : Lexeme). u.kind) j ∙ h))

function_named : (t : Lexeme) (o : PrismOp) → t.kind ≡ K.Ident → function_of t.text ≡ Some o → function_name_of t ≡ Some (Name t.at t.text)
function_named t o k h =
    let G : TokenKind → Type 0 = λ j. (if is_name j then named_if t (function_of t.text) else None) ≡ Some (Name t.at t.text) in
    subst G (sym k) (ap (λ (f : Option PrismOp). named_if t f) h)

pub prim_split : (w : List Lexeme) (x : Expression) → prim expr w x → operand w x ⊎ function_name w x
unfolding prim operand name_or_call token token_with ◌or◌ ◌>>=◌ gives
prim_split w x (inl h) = inl (inl h, no_name_by w _ (λ e. cc) (truth_opens _ _ w x h))
prim_split w x (inr (inl h)) = inl (inr (inl h), no_name_by w _ (λ e. cc) (truth_opens _ _ w x h))
prim_split w x (inr (inr (inl h))) = let n = number_opens w x h in let d = n.3 in inl (inr (inr (inl h)), no_name_by w (K.Number d.0) (λ e. cc) (n.0, n.1, n.2, d.1))
prim_split w x (inr (inr (inr (inl h)))) = by_function (function_of (h.0).text) refl h.5
  where
    by_function : (f : Option PrismOp) → function_of (h.0).text ≡ f → gives (Name (h.0).at (h.0).text) h.2 x ⊎ arguments expr (function_of (h.0).text) (h.0).at h.2 x → operand w x ⊎ function_name w x
    by_function None e g = inl (
      inr (inr (inr (inl h))),
      λ t p k.
          let i : h.0 ∷ h.2 ≡ t ∷ [] = sym (h.3 ∙ ap (λ (u : List Lexeme). u ++ h.2) h.4.0) ∙ p in
          let j : h.0 ≡ t = cc in
          ap (λ (u : Lexeme). function_of u.text) (sym j) ∙ e,
    )
    by_function (Some o) e (inl g) =
        inr (h.0, h.3 ∙ ap (λ (u : List Lexeme). u ++ h.2) h.4.0 ∙ ap (λ (u : List Lexeme). h.0 ∷ u) g.0, function_named h.0 o h.4.1 e ∙ ap (λ (y : Expression). Some y) (sym g.1))
    by_function (Some o) e (inr g) = inl (
      inr (inr (inr (inl h))),
      λ t p k.
          let n = arguments_opens expr (function_of (h.0).text) (h.0).at h.2 x g in
          let i : h.0 ∷ (n.0 ∷ n.1) ≡ t ∷ [] = sym (h.3 ∙ ap (λ (u : List Lexeme). u ++ h.2) h.4.0 ∙ ap (λ (u : List Lexeme). h.0 ∷ u) n.2) ∙ p in
          absurd (omega (arith, ap length i)),
    )
prim_split w x (inr (inr (inr (inr (inl h))))) = inl (inr (inr (inr (inr (inl h)))), no_name_by w _ (λ e. cc) (parenthesised_opens expr w x h))
prim_split w x (inr (inr (inr (inr (inr (inl h)))))) = inl (inr (inr (inr (inr (inr (inl h))))), no_name_by w _ (λ e. cc) (extremum_opens expr _ _ w x h))
prim_split w x (inr (inr (inr (inr (inr (inr h)))))) = inl (inr (inr (inr (inr (inr (inr h))))), no_name_by w _ (λ e. cc) (extremum_opens expr _ _ w x h))

name_value : (t : Lexeme) (x : Expression) → function_name_of t ≡ Some x → (f : IsFunction t) → x ≡ Name t.at t.text
name_value t x h f = let e : Some (Name t.at t.text) ≡ Some x = sym (function_named t f.op f.kind f.is) ∙ h in cc

pub name_prim : (w : List Lexeme) (x : Expression) → function_name w x → prim expr w x
unfolding prim name_or_call token token_with ◌or◌ ◌>>=◌ gives
name_prim w x h = let f = function_is h.0 x h.2 in inr (inr (inr (inl (h.0, h.0 ∷ [], [], h.1, (refl, f.kind), inl (refl, name_value h.0 x h.2 f)))))

-- ---- in a scope

prims_split : (c : Option (List Lexeme)) (w : List Lexeme) (x : Expression) → in_limit (prim expr) c w x → operands_of c w x ⊎ function_name w x
unfolding early outer_operand
prims_split None w x p = prim_split w x p
prims_split (Some us) w x p = by_split (prim_split w x p.0)
  where
    by_split : operand w x ⊎ function_name w x → (operand w x × IsEarly us w) ⊎ function_name w x
    by_split (inl h) = inl (h, p.1)
    by_split (inr h) = inr h

pub operands_prims : (c : Option (List Lexeme)) (w : List Lexeme) (x : Expression) → operands_of c w x → in_limit (prim expr) c w x
unfolding early outer_operand operand
operands_prims None w x p = p.0
operands_prims (Some us) w x p = (p.0.0, p.1)

names_prims : (c : Option (List Lexeme)) (w : List Lexeme) (x : Expression) → function_name w x → in_limit (prim expr) c w x
unfolding early token_with
names_prims None w x p = name_prim w x p
names_prims (Some us) w x p = (name_prim w x p, early_short us w (omega (arith, ap length p.1)))

pub bound-prims : (s : Scope) → Same (in_scope Grammar.bound s) (prims s)
unfolding Grammar.bound ◌or◌
bound-prims s = record { to = to; from = λ w x p. prims_split s.counted w x p }
  where
    to : (w : List Lexeme) (x : Expression) → operands s w x ⊎ function_name w x → prims s w x
    to w x (inl h) = operands_prims s.counted w x h
    to w x (inr h) = names_prims s.counted w x h

-- what reading an operand gives, a bound gives
pub bound_by : {X : Type 0} (view : X → Expression) (ts : List Lexeme) (r : Result (X × Tokens) Stop) → ParsesIn view prims (more 0) ts r → ParsesIn view (in_scope Grammar.bound) opens ts r
bound_by view ts (Ok y) p = λ s. let q = same_reads (bound-prims s) (p s) in record { word = q.word; parts = q.parts; spells = q.spells; ends = more_opens (seen y.1) q.ends }
bound_by view ts (Err Memory) p = λ s. tt
bound_by view ts (Err (At r c)) p = λ s. record {
  before = (p s).before;
  parts = (p s).parts;
  begins = let b = (p s).begins in (b.0, b.1, (bound-prims s).from ((p s).before ++ b.0) b.1 b.2);
  dead = λ i other w z x n f h g. (p s).dead i other w z x n f ((bound-prims s).to w x h) (opens_more z g);
  goes = λ i. let g = (p s).goes i in let b = g.3 in (g.0, g.1, g.2, (b.0, b.1, (bound-prims s).from (((p s).before ++ g.0 ∷ []) ++ b.0) b.1 b.2));
}

-- ---- reading an operand where no name of a function stands alone

pub operand_read : (s : Scope) (ts us : List Lexeme) (x : Expression) → function_alone ts ≡ false → Reads (prims s) (more 0) ts x us → Reads (operands s) none ts x us
unfolding token_with
operand_read s ts us x a p = by_split (prims_split s.counted p.word x p.spells)
  where
    by_split : operands s p.word x ⊎ function_name p.word x → Reads (operands s) none ts x us
    by_split (inl h) = record { word = p.word; parts = p.parts; spells = h; ends = none_ends us }
    by_split (inr h) = absurd (not_open us (more_opens us p.ends) (not_alone ts us h.0 a (p.parts ∙ ap (λ (u : List Lexeme). u ++ us) h.1) (function_is h.0 x h.2)))

pub prims_begin : (s : Scope) (u : List Lexeme) → Begins (prims s) u → Begins (operands s) u
unfolding token_with
prims_begin s u b = by_split u b.0 refl (prims_split s.counted (u ++ b.0) b.1 b.2)
  where
    by_split : (v r : List Lexeme) → v ++ r ≡ u ++ b.0 → operands s (u ++ b.0) b.1 ⊎ function_name (u ++ b.0) b.1 → Begins (operands s) v
    by_split [] r e q = operands_word s
    by_split (t ∷ v) r e (inr h) =
        let f : t ∷ (v ++ r) ≡ h.0 ∷ [] = e ∙ h.1 in
        let g : h.0 ≡ t = cc in
        let k = call_begins s t opening_token (subst (λ (m : Lexeme). IsFunction m) g (function_is h.0 b.1 h.2)) refl in
        alone v (cc) k
      where
        alone : (v : List Lexeme) → v ++ r ≡ [] → (q : (z : List Lexeme) × (x : Expression) × operands s (t ∷ opening_token ∷ z) x) → Begins (operands s) (t ∷ v)
        alone [] e q = (opening_token ∷ q.0, q.1, q.2)
        alone (m ∷ v) e q = absurd cc
    by_split (t ∷ v) r e (inl h) = let F : List Lexeme → Type 0 = λ w. operands s w b.1 in (r, b.1, subst F (sym e) h)

-- ---- where an operand was refused

abbrev NoOperand : Scope → List Lexeme → Type 0
NoOperand s before = (x : Expression) → operands s before x → ⊥

-- Where what stands before is no operand itself, none ends there.
operand_dead : (s : Scope) (before r : List Lexeme) → Dead (prims s) (more 0) before r → NoOperand s before → Begins (operands s) before → Dead (operands s) none before r
operand_dead s before r d never b other w z x n f h g = by_cut (cut before other w z f)
  where
    by_cut : Cut before other w z → ⊥
    by_cut (longer p q e k) = d (p ∷ q) w [] x (ap next (sym k) ∙ n) (sym e ∙ sym (append-nil w)) (operands_prims s.counted w x h) tt
    by_cut (shorter q e k) =
        let long : List Lexeme = before ++ b.0 in
        let parts : w ++ (q ++ b.0) ≡ long ++ [] = sym (append_assoc w q b.0) ∙ ap (λ (u : List Lexeme). u ++ b.0) (sym e) ∙ sym (append-nil long) in
        let one = (operands_one s).one w (q ++ b.0) long [] x b.1 h b.2 parts (none_ends (q ++ b.0)) tt in
        let F : List Lexeme → Type 0 = λ u. operands s u x in
        never x (subst F (whole q e one.0) h)
      where
        whole : (q : List Lexeme) → before ≡ w ++ q → w ≡ before ++ b.0 → w ≡ before
        whole [] e o = sym (e ∙ append-nil w)
        whole (p ∷ q) e o = absurd (omega (arith, ap length e, ap length o, length-append w (p ∷ q), length-append before b.0))

halts_of : (s : Scope) (c : Cause) (ts r : List Lexeme) → (h : Halts s c (prims s) (more 0) ts r) → NoOperand s h.before → Halts s c (operands s) none ts r
halts_of s c ts r h never = record {
  before = h.before;
  parts = h.parts;
  begins = prims_begin s h.before h.begins;
  dead = λ i. operand_dead s h.before r (h.dead i) never (prims_begin s h.before h.begins);
  goes = λ i. let g = h.goes i in (g.0, g.1, g.2, prims_begin s (h.before ++ g.0 ∷ []) g.3);
}

-- At the limit an operand goes on.
pub deep_halts : (ts r : List Lexeme) → ((s : Scope) → Halts s C.Deep (prims s) (more 0) ts r) → (s : Scope) → Halts s C.Deep (operands s) none ts r
deep_halts ts r h s = halts_of s C.Deep ts r (h s) never
  where
    same_before : (h plain).before ≡ (h s).before
    same_before = append_cancel_right (h plain).before (h s).before r (sym (h plain).parts ∙ (h s).parts)

    never : NoOperand s (h s).before
    never x p =
        let g = (h plain).goes refl in
        let b = prims_begin plain ((h plain).before ++ g.0 ∷ []) g.3 in
        let F : List Lexeme → Type 0 = λ u. operand u x in
        let q : operand (h plain).before x = subst F (sym same_before) (operand_of s (h s).before x p) in
        let long : List Lexeme = ((h plain).before ++ g.0 ∷ []) ++ b.0 in
        let one = (operands_one plain).one (h plain).before (g.0 ∷ b.0) long [] x b.1 q b.2 (sym (append_assoc (h plain).before (g.0 ∷ []) b.0) ∙ sym (append-nil long)) refl tt in
        absurd (omega (arith, ap length one.0, length-append ((h plain).before ++ g.0 ∷ []) b.0, length-append (h plain).before (g.0 ∷ [])))

-- Where no parenthesis stands next, what stands before is no operand.
pub form_halts : (ts r : List Lexeme) → starts opens r ≡ false → ((s : Scope) → Halts s C.Form (prims s) (more 0) ts r) → (s : Scope) → Halts s C.Form (operands s) none ts r
form_halts ts r e h s = halts_of s C.Form ts r (h s) (λ x p. (h s).dead tt r (h s).before r x refl refl (operands_prims s.counted (h s).before x p) (opens_more r (test_open r e)))

-- ---- the operand before a parenthesis

-- what stands before a refused token has at most 1,024 tokens
few_before : (ts r before : List Lexeme) → ts ≡ before ++ r → ((s : Scope) → Halts s C.Form (prims s) (more 0) ts r) → length before ≤ 1024
unfolding early
few_before ts r before e h = by_order (cases_lt 1024 (length before))
  where
    counted : Scope
    counted = record { counted = Some before; int_too = false }

    same : (h counted).before ≡ before
    same = append_cancel_right (h counted).before before r (sym (h counted).parts ∙ e)

    early : IsEarly before ((h counted).before ++ ((h counted).begins).0)
    early = ((h counted).begins).2.1

    past : (a b : List Lexeme) (t : Lexeme) → before ≡ a ++ t ∷ b → length a < 1024
    past a b t f =
        let v = ((h counted).begins).0 in
        let F : List Lexeme → Type 0 = λ u. Contains u t in
        early a (b ++ v) t (ap (λ (u : List Lexeme). u ++ v) (same ∙ f) ∙ append_assoc a (t ∷ b) v)
        (subst F (sym f) (holds a b t))
      where
        holds : (a b : List Lexeme) (t : Lexeme) → Contains (a ++ t ∷ b) t
        holds a b t = let G : List Lexeme → Type 0 = λ u. Contains u t in subst G (append_assoc a (t ∷ []) b) (Contains-append_left (a ++ t ∷ []) b t (Contains-push a t))

    split : (n : ℕ) (w : List Lexeme) → n < length w → (a b : List Lexeme) × (t : Lexeme) × (w ≡ a ++ t ∷ b) × (length a ≡ n)
    split n [] k = absurd (omega (arith, k))
    split zero (t ∷ w) k = ([], w, t, refl, refl)
    split (suc n) (t ∷ w) k = let m = split n w (omega (arith, k)) in (t ∷ m.0, m.1, m.2, ap (λ (u : List Lexeme). t ∷ u) m.3, omega (arith, m.4))

    by_order : (1024 < length before) ⊎ (length before ≤ 1024) → length before ≤ 1024
    by_order (inr k) = k
    by_order (inl k) = let m = split 1024 before k in absurd (omega (arith, past m.0 m.1 m.2 m.3, m.4))

one_of : (t : Lexeme) → Contains (t ∷ []) t
one_of t = (0, omega arith, refl)

short_prim : (us w : List Lexeme) (x : Expression) → length w ≤ 1024 → operand w x → in_limit (prim expr) (Some us) w x
unfolding early operand
short_prim us w x k p = (p.0, early_short us w k)

prims_one : (s : Scope) → IsOne (prims s) (more 0)
prims_one = one_in prims_read

-- A parenthesis stands next: the name of a function does not stand before it.
name_not_before : (ts r before : List Lexeme) (x : Expression) → ts ≡ before ++ r → IsOpen r → ((s : Scope) → Halts s C.Form (prims s) (more 0) ts r) → function_name before x → ⊥
unfolding token_with
name_not_before ts r before x e o h p = by_list r o refl
  where
    s : Scope
    s = plain

    same : (h s).before ≡ before
    same = append_cancel_right (h s).before before r (sym (h s).parts ∙ e)

    by_list : (us : List Lexeme) → IsOpen us → us ≡ r → ⊥
    by_list [] o f = o
    by_list (q ∷ us) o f =
        let k = call_begins s p.0 q (function_is p.0 x p.2) o in
        (h s).dead tt (q ∷ k.0) (p.0 ∷ q ∷ k.0) [] k.1 (ap next f) (ap (λ (u : List Lexeme). u ++ q ∷ k.0) (same ∙ p.1) ∙ sym (append-nil _)) (operands_prims s.counted _ k.1 k.2) tt

-- what stands before was read again, to its end
pub before_read : (s : Scope) (ts r before end : List Lexeme) (x : Expression) → ts ≡ before ++ r → IsOpen r → ((s : Scope) → Halts s C.Form (prims s) (more 0) ts r) → Reads (prims s) (more 0) before x end → end ≡ [] → Reads (operands s) none ts x r
before_read s ts r before end x e o h p z = by_split (prims_split s.counted before x (subst (λ (u : List Lexeme). prims s u x) (sym whole) p.spells))
  where
    whole : before ≡ p.word
    whole = p.parts ∙ ap (λ (u : List Lexeme). p.word ++ u) z ∙ append-nil p.word

    by_split : operands s before x ⊎ function_name before x → Reads (operands s) none ts x r
    by_split (inl k) = record { word = before; parts = e; spells = k; ends = none_ends r }
    by_split (inr k) = absurd (name_not_before ts r before x e o h k)

-- or not to its end
pub before_longer : (ts r before end : List Lexeme) (x : Expression) → ts ≡ before ++ r → ((s : Scope) → Halts s C.Form (prims s) (more 0) ts r) → ((s : Scope) → Reads (prims s) (more 0) before x end) → (end ≡ [] → ⊥) →
    (s : Scope) → Halts s C.Form (operands s) none ts r
before_longer ts r before end x e h p some s = halts_of s C.Form ts r (h s) (λ y k.
    let F : List Lexeme → Type 0 = λ u. operands s u y in
    let same : (h s).before ≡ before = append_cancel_right (h s).before before r (sym (h s).parts ∙ e) in
    let q = p s in
    let one = (prims_one s).one q.word end before [] x y q.spells (operands_prims s.counted before y (subst F same k)) (sym q.parts ∙ sym (append-nil before)) q.ends tt in
    some (empty q.word end (sym q.parts ∙ sym one.0)))
  where
    empty : (w end : List Lexeme) → w ++ end ≡ w → end ≡ []
    empty w [] f = refl
    empty w (t ∷ end) f = absurd (omega (arith, ap length f, length-append w (t ∷ end)))

-- or it was refused
pub before_refused : (ts r before : List Lexeme) (stop : Stop) → ts ≡ before ++ r → ((s : Scope) → Halts s C.Form (prims s) (more 0) ts r) → IsPlainStop stop → ((s : Scope) → StopsIn s (prims s) (more 0) before stop) → (stop ≡ Memory → ⊥) →
    (s : Scope) → Halts s C.Form (operands s) none ts r
before_refused ts r before Memory e h i p n s = absurd (n refl)
before_refused ts r before (At q C.Form) e h i p n s = halts_of s C.Form ts r (h s) (λ y k.
    let F : List Lexeme → Type 0 = λ u. operands s u y in
    let same : (h s).before ≡ before = append_cancel_right (h s).before before r (sym (h s).parts ∙ e) in
    (p s).dead tt (seen q) before [] y refl (sym (p s).parts ∙ sym (append-nil before)) (operands_prims s.counted before y (subst F same k)) tt)
before_refused ts r before (At q C.Deep) e h i p n s = halts_of s C.Form ts r (h s) (λ y k.
    let F : List Lexeme → Type 0 = λ u. operands s u y in
    let same : (h s).before ≡ before = append_cancel_right (h s).before before r (sym (h s).parts ∙ e) in
    deep_refused y (operand_of s before y (subst F same k)))
  where
    deep_refused : (y : Expression) → operand before y → ⊥
    deep_refused y k =
        let g = (p plain).goes refl in
        let c : Scope = record { counted = Some (g.0 ∷ []); int_too = false } in
        let G : List Lexeme → Type 0 = λ u. IsStopped C.Deep c u in
        (p c).dead (subst G (sym g.2) (one_of g.0)) (seen q) before [] y refl (sym (p c).parts ∙ sym (append-nil before)) (short_prim (g.0 ∷ []) before y (few_before ts r before e h) k) tt
before_refused ts r before (At q c) e h i p n s = absurd i

-- ---- what the readers return

pub stop_at : (ts : List Lexeme) (e : Stop) (r : Tokens) (c d : Cause) → e ≡ At r c → c ≡ d → ((s : Scope) → StopsIn s (prims s) (more 0) ts e) → (s : Scope) → Halts s d (prims s) (more 0) ts (seen r)
stop_at ts e r c d p q h s =
    let F : Stop → Type 0 = λ x. StopsIn s (prims s) (more 0) ts x in
    let G : Cause → Type 0 = λ x. Halts s x (prims s) (more 0) ts (seen r) in
    subst G q (subst F p (h s))

pub plain_stop : (e : Stop) (r : Tokens) (c d : Cause) → e ≡ At r c → c ≡ d → IsPlainStop (At r d) → IsPlainStop e
plain_stop e r c d p q h =
    let F : Cause → Type 0 = λ x. IsPlainStop (At r x) in
    subst IsPlainStop (sym p) (subst F (sym q) h)

pub alone_some : (ts : List Lexeme) (o : Option (Expr PrismOp × Tokens)) (y : Expr PrismOp × Tokens) → IsNameAlone ts o → o ≡ Some y → Reads function_name opens ts (tree y.0) (seen y.1)
alone_some ts o y h e = let F : Option (Expr PrismOp × Tokens) → Type 0 = λ p. IsNameAlone ts p in subst F e h

pub alone_none : (ts : List Lexeme) (o : Option (Expr PrismOp × Tokens)) → IsNameAlone ts o → o ≡ None → function_alone ts ≡ false
alone_none ts o h e = let F : Option (Expr PrismOp × Tokens) → Type 0 = λ p. IsNameAlone ts p in subst F e h

-- the tokens before the rest, by how many those are
pub front_before : (t rest u : Tokens) (n : ℕ) (front : List Found) → ((s : Scope) → Halts s C.Form (prims s) (more 0) (seen t) (seen rest)) → n ≡ length t.found.now - length rest.found.now → front ≡ take n t.found.now →
    seen u ≡ map (lexeme_at t.source.now.bytes.now t.source.now.literals.now) front → seen t ≡ seen u ++ seen rest
front_before t rest u n front h e g i =
    let f = lexeme_at t.source.now.bytes.now t.source.now.literals.now in
    let r = lexeme_at rest.source.now.bytes.now rest.source.now.literals.now in
    let b = (h plain).before in
    let parts = (h plain).parts in
    let count : n ≡ length b = omega (arith, e, ap length parts, length-append b (seen rest), length-map t.found.now f, length-map rest.found.now r) in
    let same : seen u ≡ b =
    i ∙ ap (λ (v : List Found). map f v) g ∙ sym (take-map f n t.found.now) ∙ ap (λ (v : List Lexeme). take n v) parts ∙ ap (λ (k : ℕ). take k (b ++ seen rest)) count ∙ take-append_seam b (seen rest) in
    parts ∙ ap (λ (v : List Lexeme). v ++ seen rest) (sym same)

pub something_left : (t : Tokens) → (length t.found.now ≡ 0 → ⊥) → seen t ≡ [] → ⊥
something_left t n e =
    let first = some_left t n in
    let i : [] ≡ first.0 ∷ first.1 = sym e ∙ first.2 in
    absurd cc

pub opened : (us : List Lexeme) → starts (is_kind (K.Symbol S.LeftParenthesis)) us ≡ true → IsOpen us
opened us e = opened_test us e

pub no_memory : (r : Tokens) (c : Cause) → At r c ≡ Memory → ⊥
no_memory r c e = cc
