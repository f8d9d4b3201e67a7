-- What was made, where memory was there.
use Rattle.std.proofs.Common.{◌≡◌, sym, ap, ap₂, ◌∙◌, subst}
use Rattle.std.specs.Prelude.{Result, Ok, Err, IfOk, IsOkAnd}

-- what follows of a value follows of a result
pub if_ok : {A E : Type 0} (P Q : A → Type 0) → ((x : A) → P x → Q x) → (r : Result A E) → IfOk r P → IfOk r Q
if_ok P Q h (Ok x) p = h x p
if_ok P Q h (Err e) p = tt

-- what was made, where it stands in places of their own that were made
module _ {A B E : Type 0} (value : B → A) where
  placed : (a : Result A E) (p : Result B E) (x : B) → IfOk p (λ u. a ≡ Ok (value u)) → p ≡ Ok x → a ≡ Ok (value x)
  placed a p x h is = subst (λ (q : Result B E). IfOk q (λ u. a ≡ Ok (value u))) is h

  one_made : (P : A → Type 0) (a : Result A E) (p : Result B E) (x : B) → IfOk p (λ u. a ≡ Ok (value u)) →
      p ≡ Ok x → P (value x) → IsOkAnd a P
  one_made P a p x h is k = subst (λ (q : Result A E). IsOkAnd q P) (sym (placed a p x h is)) k

  pub two_made : (P : A → A → Type 0) (a b : Result A E) (p q : Result B E) (x y : B) →
      IfOk p (λ u. a ≡ Ok (value u)) → IfOk q (λ u. b ≡ Ok (value u)) → p ≡ Ok x → q ≡ Ok y → P (value x) (value y) →
      IsOkAnd a (λ u. IsOkAnd b (λ w. P u w))
  two_made P a b p q x y h k is_x is_y j =
      one_made (λ u. IsOkAnd b (λ w. P u w)) a p x h is_x (one_made (λ w. P (value x) w) b q y k is_y j)

  pub three_made : (P : A → A → A → Type 0) (a b c : Result A E) (p q r : Result B E) (x y z : B) →
      IfOk p (λ u. a ≡ Ok (value u)) → IfOk q (λ u. b ≡ Ok (value u)) → IfOk r (λ u. c ≡ Ok (value u)) →
      (p ≡ Ok x) × (q ≡ Ok y) → r ≡ Ok z → P (value x) (value y) (value z) →
      IsOkAnd a (λ u. IsOkAnd b (λ w. IsOkAnd c (λ t. P u w t)))
  three_made P a b c p q r x y z h k l is is_z j =
      one_made (λ u. IsOkAnd b (λ w. IsOkAnd c (λ t. P u w t))) a p x h is.0
      (two_made (λ w t. P (value x) w t) b c q r y z k l is.1 is_z j)

pub both_made : {A B E : Type 0} (p : Result A E) (q : Result B E) (r : Result (A × B) E) (x : A) (y : B) →
    IfOk r (λ both. (p ≡ Ok both.0) × (q ≡ Ok both.1)) → r ≡ Ok (x, y) → (p ≡ Ok x) × (q ≡ Ok y)
both_made {A} {B} {E} p q r x y h is =
    subst (λ (s : Result (A × B) E). IfOk s (λ both. (p ≡ Ok both.0) × (q ≡ Ok both.1))) is h

-- how a node that was made is seen, by how its operands that were made are seen
module _ {A B E S T : Type 0} (f : A → S) (g : B → T) where
  pub over_one : (F : S → T) (r : Result B E) (a : Result A E) (x : S) → IfOk r (λ v. IsOkAnd a (λ u. g v ≡ F (f u))) →
      IfOk a (λ u. f u ≡ x) → IfOk r (λ v. g v ≡ F x)
  over_one F (Ok v) (Ok u) x h k = h ∙ ap F k
  over_one F (Ok v) (Err e) x h k = absurd h
  over_one F (Err e) a x h k = tt

  pub over_two : (F : S → S → T) (r : Result B E) (a b : Result A E) (x y : S) →
      IfOk r (λ v. IsOkAnd a (λ u. IsOkAnd b (λ w. g v ≡ F (f u) (f w)))) → IfOk a (λ u. f u ≡ x) →
      IfOk b (λ u. f u ≡ y) → IfOk r (λ v. g v ≡ F x y)
  over_two F (Ok v) (Ok u) (Ok w) x y h k l = h ∙ ap₂ F k l
  over_two F (Ok v) (Ok u) (Err e) x y h k l = absurd h
  over_two F (Ok v) (Err e) b x y h k l = absurd h
  over_two F (Err e) a b x y h k l = tt

  pub over_three : (F : S → S → S → T) (r : Result B E) (a b c : Result A E) (x y z : S) →
      IfOk r (λ v. IsOkAnd a (λ u. IsOkAnd b (λ w. IsOkAnd c (λ t. g v ≡ F (f u) (f w) (f t))))) → IfOk a (λ u. f u ≡ x) →
      IfOk b (λ u. f u ≡ y) → IfOk c (λ u. f u ≡ z) → IfOk r (λ v. g v ≡ F x y z)
  over_three F (Ok v) (Ok u) (Ok w) (Ok t) x y z h k l n = h ∙ ap₂ (λ p q. F p q (f t)) k l ∙ ap (F x y) n
  over_three F (Ok v) (Ok u) (Ok w) (Err e) x y z h k l n = absurd h
  over_three F (Ok v) (Ok u) (Err e) c x y z h k l n = absurd h
  over_three F (Ok v) (Err e) b c x y z h k l n = absurd h
  over_three F (Err e) a b c x y z h k l n = tt
