-- Every token of a JSON text ends behind its start.
use Rattle.std.proofs.Common.{◌≡◌, ◌⊎◌, ℕ, zero, suc, ◌<◌, ◌≤◌, true, false, List, [], ◌∷◌, ◌++◌, codes, refl, sym, subst, arith, inl, inr}
use Rattle.decimal_json.specs.declared.tree.Json.{Json}
use Rattle.decimal_json.specs.declared.tree.Json.TheVariants as J
use Rattle.decimal_json.specs.Lang.{Mark, Lang, Place, Among, one_of, gives, here, note, next, noted, ◌>>=◌, ◌or◌, many_with}
use Rattle.decimal_json.specs.Number.{nexts, number, number_mark}
use Rattle.decimal_json.specs.Grammar.{is_space, ws, byte, exactly, word, chars, string, string_value, number_value, array, object, member, listed, next_item, bracket, key_mark, value_with, value_at, value, text, same_state, also}
use Rattle.decimal_json.specs.Faults.{IsJson, start}

abbrev pub Late : List Mark → Type 0
Late ms = (m : Mark) → Among m ms → 0 < m.to

-- reading went on from p to q
record Moved (p q : Place) : Type 0 where
  up : p.at ≤ q.at
  late : Late p.marks → Late q.marks

abbrev Safe : {A : Type 0} → Lang A → Type 0
Safe {A} L = (p q : Place) (w : List ℕ) (x : A) → L p w x q → Moved p q

infixl 10 ◌then◌
◌then◌ : {p q r : Place} → Moved p q → Moved q r → Moved p r
◌then◌ {p = p} {q = q} {r = r} h k = record { up = let a : p.at ≤ q.at = h.up in let b : q.at ≤ r.at = k.up in omega arith; late = λ l. k.late (h.late l) }

-- ---- what all of them are made of
stays : {p q : Place} → q ≡ p → Moved p q
stays {p = p} e = subst (λ (r : Place). Moved p r) (sym e) (record { up = omega arith; late = λ h. h })

next_moves : {p q : Place} → q ≡ next p → Moved p q
unfolding next
next_moves {p = p} e = subst (λ (r : Place). Moved p r) (sym e) (record { up = omega arith; late = λ h. h })

next_above : (p q : Place) → q ≡ next p → 0 < q.at
unfolding next
next_above p q e = subst (λ (r : Place). 0 < r.at) (sym e) (omega arith)

nexts_move : (w : List ℕ) (p q : Place) → q ≡ nexts w p → Moved p q
nexts_move [] p q e = stays e
nexts_move (c ∷ w) p q e = next_moves {p = p} refl then nexts_move w (next p) q e

safe_byte : (k : ℕ) → Safe (byte k)
unfolding byte one_of
safe_byte k p q w c h = next_moves h.2

among_last : (m n : Mark) (ms : List Mark) → Among m (ms ++ n ∷ []) → Among m ms ⊎ (m ≡ n)
among_last m n [] (inl e) = inr e
among_last m n [] (inr h) = absurd h
among_last m n (k ∷ ms) (inl e) = inl (inl e)
among_last m n (k ∷ ms) (inr h) = elim (among_last m n ms h) [ inl a ↦ inl (inr a) | inr e ↦ inr e ]

safe_note : (m : Mark) → 0 < m.to → Safe (note m)
unfolding note noted
safe_note m b p q w x h = subst (λ (r : Place). Moved p r) (sym h.1) (record {
  up = omega arith;
  late = λ l k a. elim (among_last k m p.marks a) [ inl c ↦ l k c | inr e ↦ subst (λ (n : Mark). 0 < n.to) (sym e) b ];
})

safe_many : {S A : Type 0} (step : S → A → S) (L : S → Lang A) → ((s : S) → Safe (L s)) → (s : S) → Safe (many_with step L s)
unfolding many_with
safe_many step L a s p q w [] h = stays h.1
safe_many step L a s p q w (x ∷ xs) h = a s p h.2 h.0 x h.4 then safe_many step L a (step s x) h.2 q h.1 xs h.5

safe_ws : Safe ws
unfolding ws one_of
safe_ws = safe_many (λ s _. s) (λ (_ : Unit {0}). one_of is_space) (λ s p q w x h. next_moves h.2) tt

-- ---- values without brackets
safe_exactly : (bs : List ℕ) → Safe (exactly bs)
unfolding ◌>>=◌ gives
safe_exactly [] p q w x h = stays h.2
safe_exactly (b ∷ bs) p q w x h = safe_byte b _ _ _ _ h.5 then safe_exactly bs h.3 q h.2 x h.6

safe_word : (bs : List ℕ) (make : ℕ → Json) → Safe (word bs make)
unfolding word ◌>>=◌ here gives
safe_word bs make p q w x h = let k = h.6 in stays h.5.2 then safe_exactly bs h.3 k.3 k.1 k.0 k.5 then stays k.6.2

string_moves : (p q : Place) (w s : List ℕ) → string p w s q → Moved p q × (0 < q.at)
unfolding string ◌>>=◌ byte one_of chars gives
string_moves p q w s h =
    let k = h.6 in
    let m = k.6 in
    let rest : Moved h.3 q = nexts_move k.1 h.3 k.3 k.5.1 then next_moves m.5.2 then stays m.6.2 in
    (next_moves h.5.2 then rest, let a : 0 < h.3.at = next_above p h.3 h.5.2 in let b : h.3.at ≤ q.at = rest.up in omega arith)

safe_string_value : Safe string_value
unfolding string_value ◌>>=◌ here gives
safe_string_value p q w x h = let k = h.6 in stays h.5.2 then (string_moves _ _ _ _ k.5).0 then stays k.6.2

number_moves : (p q : Place) (w t : List ℕ) → number p w t q → Moved p q × (0 < q.at)
unfolding number
number_moves p q [] t h = let z : false ≡ true = h.0 in absurd cc
number_moves p q (c ∷ w) t h =
    let rest : Moved (next p) q = nexts_move w (next p) q h.2 in
    (next_moves {p = p} refl then rest, let a : 0 < (next p).at = next_above p (next p) refl in let b : (next p).at ≤ q.at = rest.up in omega arith)

safe_number_value : Safe number_value
unfolding number_value ◌>>=◌ here gives
safe_number_value p q w x h =
    let k = h.6 in
    let m = k.6 in
    let a = number_moves h.3 k.3 k.1 k.0 k.5 in
    stays h.5.2 then a.0 then stays m.5.2 then safe_note (number_mark k.0 h.0 m.0) (subst (λ i. 0 < i) (sym m.5.1) a.1) _ _ _ _ m.6.5 then stays m.6.6.2

-- ---- lists in brackets
module _ {S A : Type 0} (step : S → A → S) (L : S → Lang A) (a : (s : S) → Safe (L s)) where
  safe_next : (s : S) → Safe (next_item L s)
  unfolding next_item ◌>>=◌ gives
  safe_next s p q w x h = let k = h.6.6 in safe_byte 0x2c _ _ _ _ h.5 then safe_ws _ _ _ _ h.6.5 then a s _ _ _ _ k.5 then safe_ws _ _ _ _ k.6.5 then stays k.6.6.2

  safe_listed : (s : S) → Safe (listed step L s)
  unfolding listed ◌or◌ ◌>>=◌ gives
  safe_listed s p q w x (inl h) = stays h.2
  safe_listed s p q w x (inr h) =
      let k = h.6.6 in
      a s _ _ _ _ h.5 then safe_ws _ _ _ _ h.6.5 then safe_many step (next_item L) safe_next (step s h.0) _ _ _ _ k.5 then stays k.6.2

module _ (n : ℕ) (V : Lang Json) (a : Safe V) where
  safe_array : Safe (array n V)
  unfolding array ◌>>=◌ here gives
  safe_array p q w x h =
      let k = h.6.6 in
      let m = k.6.6 in
      stays h.5.2 then safe_byte 0x5b _ _ _ _ h.6.5 then safe_note (bracket n h.0) (omega arith) _ _ _ _ k.5 then safe_ws _ _ _ _ k.6.5
      then safe_listed same_state (λ _. V) (λ _. a) tt _ _ _ _ m.5 then safe_byte 0x5d _ _ _ _ m.6.5 then stays m.6.6.2

  safe_member : (keys : List (List ℕ)) → Safe (member n V keys)
  unfolding member ◌>>=◌ here gives
  safe_member keys p q w x h =
      let k = h.6.6 in
      let m = k.6.6 in
      let o = m.6.6 in
      let s = string_moves _ _ _ _ h.6.5 in
      stays h.5.2 then s.0 then stays k.5.2 then safe_note (key_mark keys h.6.0 h.0 k.0) (subst (λ i. 0 < i) (sym k.5.1) s.1) _ _ _ _ k.6.5
      then safe_ws _ _ _ _ m.5 then safe_byte 0x3a _ _ _ _ m.6.5 then safe_ws _ _ _ _ o.5 then a _ _ _ _ o.6.5 then stays o.6.6.2

  safe_object : Safe (object n V)
  unfolding object ◌>>=◌ here gives
  safe_object p q w x h =
      let k = h.6.6 in
      let m = k.6.6 in
      let o = m.6.6 in
      stays h.5.2 then safe_byte 0x7b _ _ _ _ h.6.5 then safe_note (bracket n h.0) (omega arith) _ _ _ _ k.5 then safe_ws _ _ _ _ k.6.5
      then safe_listed also (member n V) safe_member [] _ _ _ _ m.5 then stays m.6.5.2 then safe_byte 0x7d _ _ _ _ o.5 then stays o.6.2

  safe_value_with : Safe (value_with n V)
  unfolding value_with ◌or◌
  safe_value_with p q w x (inr h) = safe_number_value p q w x h
  safe_value_with p q w x (inl (inr h)) = safe_object p q w x h
  safe_value_with p q w x (inl (inl (inr h))) = safe_array p q w x h
  safe_value_with p q w x (inl (inl (inl (inr h)))) = safe_string_value p q w x h
  safe_value_with p q w x (inl (inl (inl (inl (inr h))))) = safe_word (codes "false") (λ at. J.Truth at false) p q w x h
  safe_value_with p q w x (inl (inl (inl (inl (inl (inr h)))))) = safe_word (codes "true") (λ at. J.Truth at true) p q w x h
  safe_value_with p q w x (inl (inl (inl (inl (inl (inl h)))))) = safe_word (codes "null") J.Null p q w x h

safe_value_at : (k n : ℕ) → Safe (value_at k n)
safe_value_at zero n p q w x h = absurd h
safe_value_at (suc k) n p q w x h = safe_value_with n (value_at k (suc n)) (safe_value_at k (suc n)) p q w x h

safe_text : Safe text
unfolding text value ◌>>=◌ gives
safe_text p q w x h =
    let k = h.6 in
    let m = k.6 in
    safe_ws _ _ _ _ h.5 then safe_value_at k.5.0 0 h.3 k.3 k.1 k.0 k.5.1 then safe_ws _ _ _ _ m.5 then stays m.6.2

pub late_tokens : (w : List ℕ) (x : Json) (tokens : List Mark) → IsJson w x tokens → Late tokens
late_tokens w x tokens h = subst Late h.marks ((safe_text start h.end w x h.spells).late (λ m a. absurd a))
