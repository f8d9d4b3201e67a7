-- A text that is a JSON string, without anything round it, is read without fault.
use Rattle.std.proofs.Common.{◌≡◌, ℕ, zero, suc, ◌+◌, true, List, [], ◌∷◌, ◌++◌, take, drop, length, refl, sym, ap₂, subst, arith, inl, inr, append-nil, take-append-drop, nat_lt, Bool, false, ltb-true, ltb-false, nat_eq, eq-eqb}
use Rattle.bridge_io.specs.declared.reason.Reason.{Reason}
use Rattle.decimal_json.specs.declared.tree.Json.{Json}
use Rattle.decimal_json.specs.declared.tree.Json.TheVariants as J
use Rattle.decimal_json.specs.Lang.{Mark, Place, Among, one_of, gives, here, next, ◌>>=◌, ◌or◌, many_with}
use Rattle.decimal_json.specs.Number.{nexts}
use Rattle.decimal_json.specs.Grammar.{ws, byte, chars, string, string_value, value_with, value, text}
use Rattle.decimal_json.specs.Faults.{IsJson, BeginsJson, IsFault, start}
use Rattle.process_texts.specs.Names.{IsString}
use Rattle.process_texts.proofs.Quoted.{no_tokens}
use Rattle.process_texts.proofs.Late.{late_tokens}

a_byte : (k : ℕ) (p : Place) → byte k p (k ∷ []) k (next p)
unfolding byte one_of
a_byte k p = (refl, same k, refl)
  where
    same : (k : ℕ) → nat_eq k k ≡ true
    same k = eq-eqb k k refl

module _ (p : Place) (w s : List ℕ) (h : IsString w s) where
  a_string : string p w s (next (nexts h.inner (next p)))
  unfolding string ◌>>=◌ chars gives
  a_string = (
    34,
    34 ∷ [],
    h.inner ++ 34 ∷ [],
    next p,
    h.text,
    a_byte 34 p,
    (
      s,
      h.inner,
      34 ∷ [],
      nexts h.inner (next p),
      refl,
      ((h.characters, h.are, h.value), refl),
      (34, 34 ∷ [], [], next (nexts h.inner (next p)), refl, a_byte 34 (nexts h.inner (next p)), (refl, refl, refl)),
    ),
  )

  a_value : string_value p w (J.Str p.at s) (next (nexts h.inner (next p)))
  unfolding string_value ◌>>=◌ here gives
  a_value = (p.at, [], w, p, refl, (refl, refl, refl), (s, w, [], next (nexts h.inner (next p)), sym (append-nil w), a_string, (refl, refl, refl)))

no_spaces : (p : Place) → ws p [] [] p
unfolding ws many_with
no_spaces p = (refl, refl)

pub a_json : (w s : List ℕ) (h : IsString w s) → IsJson w (J.Str 0 s) (next (nexts h.inner (next start))).marks
unfolding text value value_with ◌>>=◌ ◌or◌ gives
a_json w s h = record {
  end = next (nexts h.inner (next start));
  spells = (
    [],
    [],
    w,
    start,
    refl,
    no_spaces start,
    (
      J.Str 0 s,
      w,
      [],
      next (nexts h.inner (next start)),
      sym (append-nil w),
      (1, inl (inl (inl (inr (a_value start w s h))))),
      ([], [], [], next (nexts h.inner (next start)), refl, no_spaces (next (nexts h.inner (next start))), (refl, refl, refl)),
    ),
  );
  marks = refl;
}

begins : (w : List ℕ) (x : Json) (tokens : List Mark) (n : ℕ) → IsJson w x tokens → BeginsJson (take n w)
begins w x tokens n h = record { behind = drop n w; tree = x; tokens = tokens; spells = subst (λ l. IsJson l x tokens) (sym (take-append-drop n w)) h }

pub no_fault : (w s : List ℕ) → IsString w s → (i : ℕ) (why : Reason) → IsFault w i why → ⊥
no_fault w s h i why (inl f) = by_place (nat_lt i (length w)) refl
  where
    by_place : (b : Bool) → nat_lt i (length w) ≡ b → ⊥
    by_place true e = f.0.byte (ltb-true i (length w) e) (begins w (J.Str 0 s) _ (i + 1) (a_json w s h))
    by_place false e = f.0.end (let k = ltb-false i (length w) e in let m = f.0.within in omega arith) (J.Str 0 s) _ (a_json w s h)
no_fault w s h i why (inr t) = by_end t.token.to refl
  where
    by_end : (n : ℕ) → t.token.to ≡ n → ⊥
    by_end zero e = let k = late_tokens _ t.stands.tree t.stands.tokens t.stands.spells t.token t.stands.has in omega arith
    by_end (suc n) e =
        let front : take t.token.to w ++ t.stands.behind ≡ 34 ∷ (take n (h.inner ++ 34 ∷ []) ++ t.stands.behind) = ap₂ (λ k l. take k l ++ t.stands.behind) e h.text in
        let none = no_tokens _ (take n (h.inner ++ 34 ∷ []) ++ t.stands.behind) t.stands.tree t.stands.tokens front t.stands.spells in
        subst (Among t.token) none t.stands.has
