-- The text of an expression spells it.
use Rattle.std.proofs.Common.{◌≡◌, ℕ, zero, suc, ◌+◌, ◌≤◌, Bool, true, false, List, [], ◌∷◌, ◌++◌, Option, Some, None, refl, sym, ap, subst, ◌∙◌, append-nil, arith, inl}
use Rattle.std.specs.Prelude.{codes, max}
use Rattle.frac_core.specs.declared.decimal.Decimal.{Decimal}
use Rattle.op_trees.specs.Tree.{Truth, Number, Name, One, Two, Three, bare}
use Rattle.op_trees.specs.Names.{offset_of, HasOperands}
use Rattle.prism_lex.specs.declared.token.TokenKind.{TokenKind}
use Rattle.prism_lex.specs.declared.token.TokenKind.TheVariants as K
use Rattle.prism_lex.specs.declared.words.Reserved.{Reserved}
use Rattle.prism_lex.specs.declared.words.Reserved.TheVariants as W
use Rattle.prism_lex.specs.declared.symbols.Symbol.{Symbol}
use Rattle.prism_lex.specs.declared.symbols.Symbol.TheVariants as S
use Rattle.prism_lex.specs.Tokens.{Lexeme}
use Rattle.prism_tree.specs.declared.operator.PrismOp.{PrismOp}
use Rattle.prism_tree.specs.declared.operator.PrismOp.TheVariants as O
use Rattle.prism_tree.specs.Operators.{arity}
use Rattle.prism_tree.specs.Syntax.{Expression, moved}
use Rattle.prism_tree.specs.Lang.{Lang, token, token_with, gives, ◌>>=◌, ◌or◌, many, folding, fold_left}
use Rattle.prism_tree.specs.Grammar.{infix_of, at_level, operator_at, prefix_at, joined_by, operand, chain, prefixed, over_prefix, function_of, number_of, truth, parenthesised, argument, one_argument, two_arguments, arguments, name_or_call, extremum, prim, level, choice, conditional, expr_at, expr}
use Rattle.prism_print.specs.Text.{is_node}
use Rattle.prism_print.specs.Printable.{IsPrintableExpression}
use Rattle.prism_print.proofs.Pieces.{Piece, printed, blank, mark, spaced, within, called, pieces}
use Rattle.prism_print.proofs.Spelling.{Writes, then_writes, none_writes, token_writes, token_with_writes, blank_writes, gives_writes, left_writes, right_writes, also, made_writes, many_none, many_one, folding_writes}

-- the same tree, offsets aside
abbrev pub Same : Expression → Expression → Type 0
Same e x = bare x ≡ bare e

pub bare_moved : (at : ℕ) (e : Expression) → bare (moved at e) ≡ bare e
bare_moved at (Truth from b) = refl
bare_moved at e = refl

-- ---- from one level to the next: E are the expressions inside others

module _ (E : Lang Expression) where
  up_by : (o : Option (Symbol × PrismOp)) (n : ℕ) (L : Lang Expression) {P : Expression → Type 0} {ps : List Piece} → Writes L P ps → Writes (over_prefix o n L) P ps
  unfolding chain prefixed folding ◌>>=◌ many gives
  up_by None n L l = also (λ w x p. (x, w, [], sym (append-nil w), p, ([], [], [], refl, refl, (refl, refl)))) l
  up_by (Some s) n L l = also (λ w x p. ([], [], w, refl, refl, (x, w, [], sym (append-nil w), p, (refl, refl)))) l

  up_one : (n : ℕ) {P : Expression → Type 0} {ps : List Piece} → Writes (level E n) P ps → Writes (level E (suc n)) P ps
  up_one n l = up_by (prefix_at n) n (level E n) l

  abbrev raised : ℕ → ℕ → ℕ
  raised zero n = n
  raised (suc k) n = suc (raised k n)

  -- what a lower level spells, a higher one spells too
  up : (k n : ℕ) {P : Expression → Type 0} {ps : List Piece} → Writes (level E n) P ps → Writes (level E (raised k n)) P ps
  up zero n l = l
  up (suc k) n l = up_one (raised k n) (up k n l)

  -- Or5 without ? :
  plainly : {P : Expression → Type 0} {ps : List Piece} → Writes (level E 10) P ps → Writes (conditional E) P ps
  unfolding conditional ◌>>=◌ ◌or◌ gives
  plainly l = also (λ w x p. (x, w, [], sym (append-nil w), p, inl (refl, refl))) l

  -- ---- Prim

  truth_writes : (at : ℕ) (b : Bool) → Writes (prim E) (Same (Truth at b)) (pieces (Truth at b))
  unfolding prim truth
  truth_writes at true = left_writes _ (token_writes (K.Word W.True) _ (λ t h. gives_writes (Truth t.at true) refl))
  truth_writes at false = right_writes _ (left_writes _ (token_writes (K.Word W.False) _ (λ t h. gives_writes (Truth t.at false) refl)))

  number_writes : (at : ℕ) (d : Decimal) → Writes (prim E) (Same (Number at d)) (pieces (Number at d))
  unfolding prim token_with
  number_writes at d = right_writes _ (right_writes _ (left_writes _ (record {
    spells = λ w h.
        (Number h.0.at d, (h.0, h.2 ∙ ap (λ (u : List Lexeme). h.0 ∷ u) h.5, ap (number_of h.0) h.3), refl);
  })))

  name_writes : (at : ℕ) (x : List ℕ) → Writes (prim E) (Same (Name at x)) (pieces (Name at x))
  unfolding prim name_or_call
  name_writes at x = right_writes _ (right_writes _ (right_writes _ (left_writes _ (token_writes K.Ident x (λ t h. left_writes _ (gives_writes (Name t.at t.text) (ap (λ (u : List ℕ). Name 0 u) h)))))))

  parenthesised_writes : (e : Expression) (ps : List Piece) → Writes E (Same e) ps → Writes (prim E) (Same e) (within true ps)
  unfolding prim parenthesised
  parenthesised_writes e ps l = right_writes _ (right_writes _ (right_writes _ (right_writes _ (left_writes _
      (token_writes (K.Symbol S.LeftParenthesis) _ (λ t h. then_writes l (λ x p. token_writes (K.Symbol S.RightParenthesis) _ (λ _ _. gives_writes (moved t.at x) (bare_moved t.at x ∙ p)))))))))

  argument_writes : (e : Expression) (ps : List Piece) → Writes E (Same e) ps → Writes (argument E) (Same e) (mark S.Comma ∷ blank (codes " ") ∷ ps)
  unfolding argument
  argument_writes e ps l = token_writes (K.Symbol S.Comma) _ (λ _ _. blank_writes _ l)

  one_same : (at : ℕ) (o : PrismOp) (a x : Expression) → Same a x → (n : ℕ) → Same (One at o a) (One n o x)
  one_same at o a x p n = let e : bare x ≡ bare a = p in cc

  two_same : (at : ℕ) (o : PrismOp) (a b x y : Expression) → Same a x → Same b y → (n : ℕ) → Same (Two at o a b) (Two n o x y)
  two_same at o a b x y p q n = let e : bare x ≡ bare a = p in let f : bare y ≡ bare b = q in cc

  -- min or max of two
  extremum_writes : (r : Reserved) (o : PrismOp) (w : List ℕ) (at : ℕ) (a b : Expression) (ps qs : List Piece) → Writes E (Same a) ps → Writes E (Same b) qs
      → Writes (extremum E r o) (Same (Two at o a b)) (printed (K.Word r) w ∷ mark S.LeftParenthesis ∷ (ps ++ (mark S.Comma ∷ blank (codes " ") ∷ (qs ++ mark S.RightParenthesis ∷ []))))
  unfolding extremum
  extremum_writes r o w at a b ps qs l m =
      token_writes (K.Word r) w (λ t _. token_writes (K.Symbol S.LeftParenthesis) _ (λ _ _. then_writes l (λ x p. then_writes (argument_writes b qs m) (λ y q.
      none_writes (folding_writes (argument E) (λ u v. Two t.at o u v) (Two t.at o x y) (many_none (argument E) {P = λ xs. xs ≡ []} refl) (λ xs e. ap (λ (u : List Expression). bare (fold_left (λ u v. Two t.at o u v) (Two t.at o x y) u)) e ∙ two_same at o a b x y p q t.at))
      (λ z r. token_writes (K.Symbol S.RightParenthesis) _ (λ _ _. gives_writes z r))))))

  -- ---- functions

  one_argument_writes : (o : PrismOp) (at n : ℕ) (a : Expression) (ps : List Piece) → Writes E (Same a) ps → Writes (one_argument E o n) (Same (One at o a)) (within true ps)
  unfolding one_argument
  one_argument_writes o at n a ps l =
      token_writes (K.Symbol S.LeftParenthesis) _ (λ _ _. then_writes l (λ x p. token_writes (K.Symbol S.RightParenthesis) _ (λ _ _. gives_writes (One n o x) (one_same at o a x p n))))

  two_arguments_writes : (o : PrismOp) (at n : ℕ) (a b : Expression) (ps qs : List Piece) → Writes E (Same a) ps → Writes E (Same b) qs
      → Writes (two_arguments E o n) (Same (Two at o a b)) (mark S.LeftParenthesis ∷ (ps ++ (mark S.Comma ∷ blank (codes " ") ∷ (qs ++ mark S.RightParenthesis ∷ []))))
  unfolding two_arguments
  two_arguments_writes o at n a b ps qs l m =
      token_writes (K.Symbol S.LeftParenthesis) _ (λ _ _. then_writes l (λ x p. then_writes (argument_writes b qs m) (λ y q. token_writes (K.Symbol S.RightParenthesis) _ (λ _ _. gives_writes (Two n o x y) (two_same at o a b x y p q n)))))

  -- the name of a function and its arguments
  function_writes : (x : List ℕ) (o : PrismOp) {P : Expression → Type 0} (ps : List Piece) → function_of x ≡ Some o → ((n : ℕ) → Writes (arguments E (Some o) n) P ps) → Writes (prim E) P (printed K.Ident x ∷ ps)
  unfolding prim name_or_call
  function_writes x o {P} ps e l = right_writes _ (right_writes _ (right_writes _ (left_writes _ (token_writes K.Ident x (λ t h. right_writes _
      (let F : Option PrismOp → Type 0 = λ u. Writes (arguments E u t.at) P ps in subst F (sym (ap function_of h ∙ e)) (l t.at)))))))

  min_writes : (at : ℕ) (a b : Expression) (ps qs : List Piece) → Writes E (Same a) ps → Writes E (Same b) qs → Writes (prim E) (Same (Two at O.Min a b)) (called O.Min ps qs)
  unfolding prim
  min_writes at a b ps qs l m = right_writes _ (right_writes _ (right_writes _ (right_writes _ (right_writes _ (left_writes _ (extremum_writes W.Min O.Min _ at a b ps qs l m))))))

  max_writes : (at : ℕ) (a b : Expression) (ps qs : List Piece) → Writes E (Same a) ps → Writes E (Same b) qs → Writes (prim E) (Same (Two at O.Max a b)) (called O.Max ps qs)
  unfolding prim
  max_writes at a b ps qs l m = right_writes _ (right_writes _ (right_writes _ (right_writes _ (right_writes _ (right_writes _ (extremum_writes W.Max O.Max _ at a b ps qs l m))))))

  -- ---- operators

  prefix_writes : (s : Symbol) (o : PrismOp) (L : Lang Expression) (at : ℕ) (a : Expression) (w : List ℕ) (ps : List Piece) → Writes L (Same a) ps → Writes (prefixed s o L) (Same (One at o a)) (printed (K.Symbol s) w ∷ ps)
  unfolding prefixed ◌>>=◌ many token gives
  prefix_writes s o L at a w ps l = record {
    spells = λ u h.
        let y = l.spells h.1 h.5 in
        (One h.0.at o y.0, (h.0 ∷ [], h.0 ∷ [], h.1, h.2, (h.0 ∷ [], [], refl, (refl, h.3), refl), (y.0, h.1, [], sym (append-nil h.1), y.1, (refl, refl))), one_same at o a y.0 y.2 h.0.at);
  }

  operand_writes : (n : ℕ) (L : Lang Expression) (k : TokenKind) (w : List ℕ) (o : PrismOp) (b : Expression) (qs : List Piece) → at_level n (infix_of k) ≡ Some o → Writes L (Same b) qs
      → Writes (operand n L) (λ y. (y.0 ≡ o) × Same b y.1) (printed k w ∷ blank (codes " ") ∷ qs)
  unfolding operand
  operand_writes n L k w o b qs e m = token_with_writes _ (operator_at n) k w o (λ t h. ap (λ (u : TokenKind). at_level n (infix_of u)) h ∙ e) (blank_writes _ (made_writes (λ y. (o, y)) (λ y q. (refl, q)) m))

  -- an operator between two operands
  infix_writes : (n : ℕ) (L : Lang Expression) (k : TokenKind) (w : List ℕ) (o : PrismOp) (at : ℕ) (a b : Expression) (ps qs : List Piece) → at_level n (infix_of k) ≡ Some o → Writes L (Same a) ps → Writes L (Same b) qs
      → Writes (chain n L) (Same (Two at o a b)) (ps ++ spaced (printed k w) qs)
  unfolding chain
  infix_writes n L k w o at a b ps qs e l m = then_writes l (λ x p. blank_writes _ (folding_writes (operand n L) joined_by x
      (let F : List Piece → Type 0 = λ u. Writes (many (operand n L)) (OneOperand) u in
      subst F (append-nil _) (many_one (operand_writes n L k w o b qs e m) (many_none (operand n L) {P = λ ys. ys ≡ []} refl) one))
      (λ ys q. joined x ys p q)))
    where
      OneOperand : List (PrismOp × Expression) → Type 0
      OneOperand ys = (y : PrismOp × Expression) × (ys ≡ y ∷ []) × (y.0 ≡ o) × Same b y.1

      one : (y : PrismOp × Expression) (ys : List (PrismOp × Expression)) → (y.0 ≡ o) × Same b y.1 → ys ≡ [] → OneOperand (y ∷ ys)
      one y ys p e = (y, ap (λ (u : List (PrismOp × Expression)). y ∷ u) e, p.0, p.1)

      joined : (x : Expression) (ys : List (PrismOp × Expression)) → Same a x → OneOperand ys → Same (Two at o a b) (fold_left joined_by x ys)
      joined x ys p q =
          ap (λ (u : List (PrismOp × Expression)). bare (fold_left joined_by x u)) q.1 ∙ ap (λ (u : PrismOp). Two 0 u (bare x) (bare q.0.1)) q.2
          ∙ two_same at o a b x q.0.1 p q.3 0

  -- ? :
  choice_writes : (at : ℕ) (o : PrismOp) (c a b : Expression) (ps qs rs : List Piece) → o ≡ O.Ite → Writes (level E 10) (Same c) ps → Writes E (Same a) qs → Writes E (Same b) rs
      → Writes (conditional E) (Same (Three at o c a b)) (ps ++ spaced (mark S.Question) (qs ++ spaced (mark S.Colon) rs))
  unfolding conditional choice
  choice_writes at o c a b ps qs rs i l m n =
      then_writes l (λ x p. right_writes _ (blank_writes _ (token_writes (K.Symbol S.Question) _ (λ _ _. blank_writes _
      (then_writes m (λ y q. blank_writes _ (token_writes (K.Symbol S.Colon) _ (λ _ _. blank_writes _ (made_writes (λ z. Three (offset_of x) O.Ite x y z) (λ z r. same x y z p q r) n)))))))))
    where
      same : (x y z : Expression) → Same c x → Same a y → Same b z → Same (Three at o c a b) (Three (offset_of x) O.Ite x y z)
      same x y z p q r = let d : bare x ≡ bare c = p in let e : bare y ≡ bare a = q in let f : bare z ≡ bare b = r in cc

  -- ---- nodes

  -- what is known of the text of a tree among the expressions inside E: it spells the tree, and where the tree is no
  -- operator node it spells it bare
  record Both (e : Expression) : Type 0 where
    whole : Writes (conditional E) (Same e) (pieces e)
    bare_text : is_node e ≡ false → Writes (prim E) (Same e) (pieces e)

  of_prim : (e : Expression) → Writes (prim E) (Same e) (pieces e) → Both e
  of_prim e l = record { whole = plainly (up 10 0 l); bare_text = λ _. l }

  of_node : (e : Expression) → is_node e ≡ true → Writes (conditional E) (Same e) (pieces e) → Both e
  of_node e h l = record { whole = l; bare_text = λ i. absurd (let k : true ≡ false = sym h ∙ i in cc) }

  -- what is known of an operand: among E itself, and bare
  record Operand (a : Expression) : Type 0 where
    inner : Writes E (Same a) (pieces a)
    bare_text : is_node a ≡ false → Writes (prim E) (Same a) (pieces a)

  -- an operand, in parentheses where it is an operator node
  operand_prim : (a : Expression) → Operand a → Writes (prim E) (Same a) (within (is_node a) (pieces a))
  operand_prim a l = go (is_node a) refl
    where
      go : (t : Bool) → is_node a ≡ t → Writes (prim E) (Same a) (within t (pieces a))
      go true e = parenthesised_writes a (pieces a) l.inner
      go false e = l.bare_text e

  at_level_of : (n : ℕ) (a : Expression) → Operand a → Writes (level E (raised n 0)) (Same a) (within (is_node a) (pieces a))
  at_level_of n a l = up n 0 (operand_prim a l)

  one_both : (at : ℕ) (o : PrismOp) (a : Expression) → arity o ≡ 1 → Operand a → Both (One at o a)
  one_both at O.Neg a h l = of_node _ refl (plainly (up 9 1 (prefix_writes S.Minus O.Neg (level E 0) at a _ _ (operand_prim a l))))
  one_both at O.Not a h l = of_node _ refl (plainly (up 4 6 (prefix_writes S.Not O.Not (level E 5) at a _ _ (at_level_of 5 a l))))
  one_both at O.Floor a h l = of_prim _ (function_writes (codes "floor") O.Floor _ refl (λ n. one_argument_writes O.Floor at n a (pieces a) l.inner))
  one_both at O.Ceil a h l = of_prim _ (function_writes (codes "ceil") O.Ceil _ refl (λ n. one_argument_writes O.Ceil at n a (pieces a) l.inner))
  one_both at o a h l = absurd (omega arith)

  -- the operator of a level between two operands
  infix_both : (n : ℕ) (k : TokenKind) (w : List ℕ) (o : PrismOp) (at : ℕ) (a b : Expression) → at_level n (infix_of k) ≡ Some o → Operand a → Operand b
      → Writes (chain n (level E (raised n 0))) (Same (Two at o a b)) (within (is_node a) (pieces a) ++ spaced (printed k w) (within (is_node b) (pieces b)))
  infix_both n k w o at a b e l m = infix_writes n (level E (raised n 0)) k w o at a b _ _ e (at_level_of n a l) (at_level_of n b m)

  two_both : (at : ℕ) (o : PrismOp) (a b : Expression) → arity o ≡ 2 → Operand a → Operand b → Both (Two at o a b)
  two_both at O.Mul a b h l m = of_node _ refl (plainly (up 8 2 (infix_both 1 (K.Symbol S.Star) _ O.Mul at a b refl l m)))
  two_both at O.Div a b h l m = of_node _ refl (plainly (up 8 2 (infix_both 1 (K.Symbol S.Slash) _ O.Div at a b refl l m)))
  two_both at O.Add a b h l m = of_node _ refl (plainly (up 7 3 (infix_both 2 (K.Symbol S.Plus) _ O.Add at a b refl l m)))
  two_both at O.Sub a b h l m = of_node _ refl (plainly (up 7 3 (infix_both 2 (K.Symbol S.Minus) _ O.Sub at a b refl l m)))
  two_both at O.Less a b h l m = of_node _ refl (plainly (up 6 4 (infix_both 3 (K.Symbol S.Less) _ O.Less at a b refl l m)))
  two_both at O.AtMost a b h l m = of_node _ refl (plainly (up 6 4 (infix_both 3 (K.Symbol S.AtMost) _ O.AtMost at a b refl l m)))
  two_both at O.AtLeast a b h l m = of_node _ refl (plainly (up 6 4 (infix_both 3 (K.Symbol S.AtLeast) _ O.AtLeast at a b refl l m)))
  two_both at O.Greater a b h l m = of_node _ refl (plainly (up 6 4 (infix_both 3 (K.Symbol S.Greater) _ O.Greater at a b refl l m)))
  two_both at O.Equal a b h l m = of_node _ refl (plainly (up 5 5 (infix_both 4 (K.Symbol S.Equal) _ O.Equal at a b refl l m)))
  two_both at O.Unequal a b h l m = of_node _ refl (plainly (up 5 5 (infix_both 4 (K.Symbol S.Unequal) _ O.Unequal at a b refl l m)))
  two_both at O.And a b h l m = of_node _ refl (plainly (up 3 7 (infix_both 6 (K.Symbol S.And) _ O.And at a b refl l m)))
  two_both at O.Or a b h l m = of_node _ refl (plainly (up 2 8 (infix_both 7 (K.Symbol S.Or) _ O.Or at a b refl l m)))
  two_both at O.Iff a b h l m = of_node _ refl (plainly (up 1 9 (infix_both 8 (K.Symbol S.Iff) _ O.Iff at a b refl l m)))
  two_both at O.Implies a b h l m = of_node _ refl (plainly (infix_both 9 (K.Symbol S.Implies) _ O.Implies at a b refl l m))
  two_both at O.Min a b h l m = of_prim _ (min_writes at a b (pieces a) (pieces b) l.inner m.inner)
  two_both at O.Max a b h l m = of_prim _ (max_writes at a b (pieces a) (pieces b) l.inner m.inner)
  two_both at O.Mod a b h l m = of_prim _ (function_writes (codes "mod") O.Mod _ refl (λ n. two_arguments_writes O.Mod at n a b (pieces a) (pieces b) l.inner m.inner))
  two_both at o a b h l m = absurd (omega arith)

is_choice : (o : PrismOp) → arity o ≡ 3 → o ≡ O.Ite
is_choice O.Ite h = refl
is_choice o h = absurd (omega arith)

-- ---- by depth

-- how deep expressions stand inside one another
abbrev depth : Expression → ℕ
depth (Truth at b) = 1
depth (Number at d) = 1
depth (Name at x) = 1
depth (One at o a) = depth a + 1
depth (Two at o a b) = max (depth a) (depth b) + 1
depth (Three at o a b c) = max (depth a) (max (depth b) (depth c)) + 2

some_depth : (e : Expression) → 1 ≤ depth e
some_depth (Truth at b) = omega arith
some_depth e = omega arith

abbrev AtDepth : Expression → Type 0
AtDepth e = (m : ℕ) → depth e ≤ suc m → Both (expr_at m) e

inner_at : (a : Expression) (m : ℕ) → AtDepth a → depth a ≤ m → Writes (expr_at m) (Same a) (pieces a)
inner_at a zero f h = absurd (let k = some_depth a in omega arith)
inner_at a (suc k) f h = (f k h).whole

operand_at : (a : Expression) (m : ℕ) → AtDepth a → depth a ≤ m → Operand (expr_at m) a
operand_at a m f h = record { inner = inner_at a m f h; bare_text = λ i. (f m (omega arith)).bare_text i }

-- an operand of ? :, which may be any expression in parentheses
choice_at : (a : Expression) (m : ℕ) → AtDepth a → depth a + 1 ≤ m → Writes (expr_at m) (Same a) (within (is_node a) (pieces a))
choice_at a zero f h = absurd (omega arith)
choice_at a (suc k) f h = plainly (expr_at k) (at_level_of (expr_at k) 10 a (operand_at a k f (omega arith)))

both : (e : Expression) → HasOperands arity e → AtDepth e
both (Truth at b) p m h = of_prim (expr_at m) _ (truth_writes (expr_at m) at b)
both (Number at d) p m h = of_prim (expr_at m) _ (number_writes (expr_at m) at d)
both (Name at x) p m h = of_prim (expr_at m) _ (name_writes (expr_at m) at x)
both (One at o a) p m h = one_both (expr_at m) at o a p.0 (operand_at a m (both a p.1) (omega arith))
both (Two at o a b) p m h = two_both (expr_at m) at o a b p.0 (operand_at a m (both a p.1) (omega arith)) (operand_at b m (both b p.2) (omega arith))
both (Three at o a b c) p m h =
    of_node (expr_at m) _ refl (choice_writes (expr_at m) at o a b c _ _ _ (is_choice o p.0)
    (at_level_of (expr_at m) 10 a (operand_at a m (both a p.1) (omega arith))) (choice_at b m (both b p.2) (omega arith)) (choice_at c m (both c p.3) (omega arith)))

-- The text of a tree whose nodes have their operands spells it where the text of each name is read as a name.
pub tree_writes : (e : Expression) → HasOperands arity e → Writes expr (Same e) (pieces e)
unfolding expr
tree_writes e p = also (λ w x l. (suc (depth e), l)) (both e p (depth e) (omega arith)).whole

operands_of : (e : Expression) → IsPrintableExpression e → HasOperands arity e
operands_of (Truth at b) p = tt
operands_of (Number at d) p = tt
operands_of (Name at x) p = tt
operands_of (One at o a) p = (p.0, operands_of a p.1)
operands_of (Two at o a b) p = (p.0, operands_of a p.1, operands_of b p.2)
operands_of (Three at o a b c) p = (p.0, operands_of a p.1, operands_of b p.2, operands_of c p.3)

pub expr_writes : (e : Expression) → IsPrintableExpression e → Writes expr (Same e) (pieces e)
expr_writes e p = tree_writes e (operands_of e p)

-- ---- where an expression stands inside no other, as an operand does

whole_operand : (e : Expression) → HasOperands arity e → Operand expr e
whole_operand (Truth at b) p = record { inner = tree_writes (Truth at b) p; bare_text = λ _. truth_writes expr at b }
whole_operand (Number at d) p = record { inner = tree_writes (Number at d) p; bare_text = λ _. number_writes expr at d }
whole_operand (Name at x) p = record { inner = tree_writes (Name at x) p; bare_text = λ _. name_writes expr at x }
whole_operand (One at o a) p = record { inner = tree_writes (One at o a) p; bare_text = λ i. (one_both expr at o a p.0 (whole_operand a p.1)).bare_text i }
whole_operand (Two at o a b) p =
    record { inner = tree_writes (Two at o a b) p; bare_text = λ i. (two_both expr at o a b p.0 (whole_operand a p.1) (whole_operand b p.2)).bare_text i }
whole_operand (Three at o a b c) p = record { inner = tree_writes (Three at o a b c) p; bare_text = λ i. absurd (let k : true ≡ false = i in cc) }

-- in parentheses where it is an operator node
pub prim_writes : (e : Expression) → HasOperands arity e → Writes (prim expr) (Same e) (within (is_node e) (pieces e))
prim_writes e p = operand_prim expr e (whole_operand e p)

-- the same as an expression
pub enclosed_writes : (e : Expression) → HasOperands arity e → Writes expr (Same e) (within (is_node e) (pieces e))
unfolding expr
enclosed_writes e p = also (λ w x l. (depth e + 1, l)) (choice_at e (depth e + 1) (both e p) (omega arith))
