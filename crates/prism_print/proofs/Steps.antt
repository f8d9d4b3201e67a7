-- What is written one after another.
use Rattle.std.proofs.Common.{◌≡◌, ℕ, suc, ◌+◌, ◌<◌, ◌≤◌, true, false, List, [], ◌∷◌, ◌++◌, length, get_or, drop, map, Result, Ok, Err, refl, sym, ap, subst, ◌∙◌, append_assoc, add-one, arith}
use Rattle.std.specs.Prelude.{codes, OnOk, is_ok, if◌then◌else◌}
use Rattle.std.specs.Result.{result_and}
use Rattle.std.proofs.lemmas.Result.{on_ok_weaker}
use Rattle.std.proofs.Math.Seq.{drop-cons}
use Rattle.prism_tree.specs.declared.syntax.PrismWrite.{PrismWrite}
use Rattle.prism_tree.specs.declared.operator.PrismOp.{PrismOp}
use Rattle.op_trees.specs.Tree.{One, Two, Three}
use Rattle.prism_tree.specs.Syntax.{Expression, write_of}
use Rattle.prism_print.specs.Text.{operator_text, is_function, expression_text, operand_text, write_text, update_text, listed}

-- ---- writes whose results are joined

pub extend_done : {T E : Type 0} (r : Result T E) (a o0 o1 : List ℕ) → o1 ≡ (if is_ok r then o0 ++ a else o0) → OnOk r (o1 ≡ o0 ++ a)
extend_done (Ok x) a o0 o1 e = e
extend_done (Err d) a o0 o1 e = tt

pub and_done : {T U E : Type 0} (r : Result T E) (s t : Result U E) (a b o0 o1 o2 : List ℕ) → t ≡ result_and r s → OnOk r (o1 ≡ o0 ++ a) → OnOk s (o2 ≡ o1 ++ b) → OnOk t (o2 ≡ o0 ++ (a ++ b))
and_done (Ok x) s t a b o0 o1 o2 e p q =
    rw e (on_ok_weaker s (λ (h : o2 ≡ o1 ++ b). h ∙ (ap (λ (u : List ℕ). u ++ b) p ∙ append_assoc o0 a b)) q)
and_done (Err d) s t a b o0 o1 o2 e p q = rw e tt

-- a text that is written another way
pub text_done : {T E : Type 0} (r : Result T E) (a b o0 o1 : List ℕ) → OnOk r (o1 ≡ o0 ++ a) → a ≡ b → OnOk r (o1 ≡ o0 ++ b)
text_done r a b o0 o1 p e = subst (λ (u : List ℕ). OnOk r (o1 ≡ o0 ++ u)) e p

-- ---- expressions

pub one_call : (e a b : Expression) (at : ℕ) (o : PrismOp) (t : List ℕ) → e ≡ One at o a → is_function o ≡ true → t ≡ operator_text o → b ≡ a
    → t ++ (codes "(" ++ (expression_text b ++ codes ")")) ≡ expression_text e
one_call e a b at o t p f q r = rw (p, f, q, r) refl

pub one_operand : (e a b : Expression) (at : ℕ) (o : PrismOp) (t : List ℕ) → e ≡ One at o a → is_function o ≡ false → t ≡ operator_text o → b ≡ a
    → t ++ operand_text b ≡ expression_text e
one_operand e a b at o t p f q r = rw (p, f, q, r) refl

pub two_call : (e a b x y : Expression) (at : ℕ) (o : PrismOp) (t : List ℕ) → e ≡ Two at o a b → is_function o ≡ true → t ≡ operator_text o → x ≡ a → y ≡ b
    → (t ++ (codes "(" ++ (expression_text x ++ codes ", "))) ++ (expression_text y ++ codes ")") ≡ expression_text e
two_call e a b x y at o t p f q r s = rw (p, f, q, r, s) (simp append_assoc)

pub two_operands : (e a b x y : Expression) (at : ℕ) (o : PrismOp) (t : List ℕ) → e ≡ Two at o a b → is_function o ≡ false → t ≡ operator_text o → x ≡ a → y ≡ b
    → ((operand_text x ++ codes " ") ++ t) ++ (codes " " ++ operand_text y) ≡ expression_text e
two_operands e a b x y at o t p f q r s = rw (p, f, q, r, s) (simp append_assoc)

pub three_operands : (e a b c x y z : Expression) (at : ℕ) (o : PrismOp) → e ≡ Three at o a b c → x ≡ a → y ≡ b → z ≡ c
    → (operand_text x ++ (codes " ? " ++ operand_text y)) ++ (codes " : " ++ operand_text z) ≡ expression_text e
three_operands e a b c x y z at o p q r s = rw (p, q, r, s) (simp append_assoc)

-- ---- lists

-- the texts of what the items stand for
pub listed_map : {A C : Type 0} (before between : List ℕ) (f : C → List ℕ) (g : A → C) (xs : List A) → listed before between f (map g xs) ≡ listed before between (λ x. f (g x)) xs
listed_map before between f g [] = refl
listed_map before between f g (x ∷ xs) = ap (λ (u : List ℕ). before ++ (f (g x) ++ u)) (listed_map between between f g xs)

pub listed_of : {A C : Type 0} (before between : List ℕ) (f : C → List ℕ) (g : A → C) (xs ys : List A) → xs ≡ ys → listed before between (λ x. f (g x)) xs ≡ listed before between f (map g ys)
listed_of {A} before between f g xs ys e = ap (λ (u : List A). listed before between (λ x. f (g x)) u) e ∙ sym (listed_map before between f g ys)

-- one item more is written
pub item_done : {A : Type 0} (before between : List ℕ) (f : A → List ℕ) (xs : List A) (i : ℕ) (x : A) (o0 o1 o2 all : List ℕ) → i < length xs → x ≡ get_or xs i x → o1 ≡ o0 ++ before → o2 ≡ o1 ++ f x
    → o0 ++ listed before between f (drop i xs) ≡ all → o2 ++ listed between between f (drop (i + 1) xs) ≡ all
item_done {A} before between f xs i x o0 o1 o2 all h e e1 e2 before_it =
    let rest : drop i xs ≡ x ∷ drop (i + 1) xs = rw add-one (drop-cons xs i x h ∙ ap (λ (y : A). y ∷ drop (suc i) xs) (sym e)) in
    let joined : o2 ++ listed between between f (drop (i + 1) xs) ≡ o0 ++ (before ++ (f x ++ listed between between f (drop (i + 1) xs))) = rw (e2, e1) (simp append_assoc) in
    joined ∙ subst (λ (u : List A). o0 ++ listed before between f u ≡ all) rest before_it

pub update_is : (xs : List PrismWrite) → 1 ≤ length xs → listed [] (codes " & ") (λ x. write_text (write_of x)) xs ≡ update_text (map write_of xs)
update_is [] h = absurd (omega arith)
update_is (x ∷ xs) h = sym (listed_map [] (codes " & ") write_text write_of (x ∷ xs))

pub list_done : {T E A C : Type 0} (r : Result T E) (before between : List ℕ) (f : C → List ℕ) (g : A → C) (xs ys : List A) (o0 o1 : List ℕ) → OnOk r (o1 ≡ o0 ++ listed before between (λ x. f (g x)) xs) → xs ≡ ys
    → OnOk r (o1 ≡ o0 ++ listed before between f (map g ys))
list_done r before between f g xs ys o0 o1 p e = text_done r _ _ o0 o1 p (listed_of before between f g xs ys e)

-- ---- texts that are written one after another

pub five_joined : (a b c d e : List ℕ) → (((a ++ b) ++ c) ++ d) ++ e ≡ a ++ (b ++ (c ++ (d ++ e)))
five_joined a b c d e = simp append_assoc

pub copy_joined : (a b c d e l z : List ℕ) → ((a ++ (b ++ (c ++ (d ++ e)))) ++ l) ++ z ≡ a ++ (b ++ (c ++ (d ++ (e ++ (l ++ z)))))
copy_joined a b c d e l z = simp append_assoc

pub command_joined : (x a b e d m z : List ℕ) → (((x ++ a) ++ (b ++ (e ++ d))) ++ m) ++ z ≡ x ++ (a ++ (b ++ (e ++ (d ++ (m ++ z)))))
command_joined x a b e d m z = simp append_assoc

pub body_joined : (x n y w m z : List ℕ) → (((x ++ (n ++ y)) ++ w) ++ m) ++ z ≡ x ++ (n ++ (y ++ (w ++ (m ++ z))))
body_joined x n y w m z = simp append_assoc

pub file_done : (k a b c d e f g o0 o1 : List ℕ) → o0 ≡ [] → o1 ≡ o0 ++ (((((((k ++ a) ++ b) ++ c) ++ d) ++ e) ++ f) ++ g) → o1 ≡ k ++ (a ++ (b ++ (c ++ (d ++ (e ++ (f ++ g))))))
file_done k a b c d e f g o0 o1 h p = p ∙ rw h (simp append_assoc)
