-- Words that give values of constants.
use Rattle.std.proofs.Common.{arith, ◌≡◌, ◌∙◌, sym, ap, ap₂, subst, ℕ, ◌+◌, ◌-◌, ◌<◌, List, [], ◌∷◌, ◌++◌, length, take, drop, get_or, map, Bool, true, false, None, refl, inl, lit<, append_assoc, append-nil}
use Rattle.std.specs.Global.{Global}
use Rattle.std.specs.Cmp.{IsEquivalence}
use Rattle.std.specs.Prelude.{bytes_eq, ◌||◌, String, string_bytes}
use Rattle.std.specs.List.{AllZip, IsDistinct, AllByRecursion}
use Rattle.std.specs.Str.Pattern.{RFindsChar, SplitsAroundMatch}
use Rattle.std.proofs.lemmas.Str.Pattern.{NoCharPasses-char, drop_at_char}
use Rattle.std.proofs.lemmas.List.{take-append-drop, take-map, take_more, map-append}
use Rattle.std.proofs.lemmas.Map.Keys.{IsDistinct-push, IsDistinct-head, IsDistinct-tail}
use Rattle.basics.specs.Texts.{bytes_eq-true, bytes_eq-self, bytes_eq_comm}
use Rattle.basics.specs.Members.{any_agree, any_push}
use Rattle.process_core.specs.Zip.{AllZip-append}
use Rattle.process_texts.specs.Given.{Answers, IsValue}
use Rattle.process_texts.specs.declared.given.GivenText.{GivenText}
use Rattle.process_texts.specs.declared.given.GivenText.TheVariants.{Good, Past, NoForm}
use Rattle.name_rules.specs.Names.{is_in, add}
use Rattle.command_words.specs.Numbers.{IsWithout}
use Rattle.command_words.specs.Given.{Assignment, IsAssignment, IsGivenText, AreApart, AreGiven, HasGiven}
use Rattle.command_words.specs.Words.{Begins, IsWrong, texts}
use Rattle.command_words.proofs.Splits.{last_split, not_without}

-- ---- one word
without_equals : (w : List ℕ) → IsWithout 61 w → (a : Assignment) → IsAssignment w a → ⊥
without_equals w h a k = not_without 61 a.name k.text (subst (IsWithout 61) k.word h)

pub no_split : (w : List ℕ) → RFindsChar 61 w None → (a : Assignment) → IsAssignment w a → ⊥
no_split w h = without_equals w (λ i l e. NoCharPasses-char 61 w i h (lit< tt) l e)

pub parted : (w front back : List ℕ) → SplitsAroundMatch (RFindsChar 61) w front back → (w ≡ front ++ 61 ∷ back) × IsWithout 61 back
parted w front back h =
    let i = h.0 in
    let j = h.1 in
    let e : w ≡ take i w ++ drop i w = sym (take-append-drop i w) in
    let f : drop i w ≡ 61 ∷ drop j w = drop_at_char 61 w i j h.2.1 (lit< tt) in (
      e ∙ ap (λ l. take i w ++ l) f ∙ ap₂ (λ a b. a ++ 61 ∷ b) (sym h.3) (sym h.4),
      subst (IsWithout 61) (sym h.4) (λ k l z. NoCharPasses-char 61 (drop j w) k h.2.0 (lit< tt) l z),
    )

module _ (w front back : List ℕ) (p : (w ≡ front ++ 61 ∷ back) × IsWithout 61 back) where
  pub is_assignment : (g : GivenText) → IsGivenText back g → IsAssignment w (record { name = front; value = g })
  is_assignment g h = record { text = back; word = p.0; last = p.1; value = h }

  pub no_value : Answers (IsValue back) NoForm → (a : Assignment) → IsAssignment w a → ⊥
  no_value none a h = by_value a.value h.value
    where
      same : h.text ≡ back
      same = (last_split 61 a.name front h.text back (sym h.word ∙ p.0) h.last p.1).1

      by_value : (g : GivenText) → IsGivenText h.text g → ⊥
      by_value (Good v) k = none v false (subst (λ t. IsValue t v false) same k.0)
      by_value Past k = none k.0 k.1 (subst (λ t. IsValue t k.0 k.1) same k.2)
      by_value NoForm k = k

pub one_split : (w : List ℕ) (a b : Assignment) (h : IsAssignment w a) (k : IsAssignment w b) → (a.name ≡ b.name) × (h.text ≡ k.text)
one_split w a b h k = last_split 61 a.name b.name h.text k.text (sym h.word ∙ k.word) h.last k.last

-- ---- words, one after another
abbrev pub names_of : List Assignment → List (List ℕ)
names_of given = map (λ a. a.name) given

zip_names : (ws : List (List ℕ)) (gs hs : List Assignment) → AllZip IsAssignment ws gs → AllZip IsAssignment ws hs → names_of gs ≡ names_of hs
zip_names [] [] [] h k = refl
zip_names [] [] (b ∷ hs) h k = absurd k
zip_names [] (a ∷ gs) hs h k = absurd h
zip_names (w ∷ ws) [] hs h k = absurd h
zip_names (w ∷ ws) (a ∷ gs) [] h k = absurd k
zip_names (w ∷ ws) (a ∷ gs) (b ∷ hs) h k = ap₂ (λ x xs. x ∷ xs) (one_split w a b h.0 k.0).0 (zip_names ws gs hs h.1 k.1)

-- the words up to one, and that one, of those that are given
zip_at : (ws more : List (List ℕ)) (w : List ℕ) (gs : List Assignment) → AllZip IsAssignment (ws ++ w ∷ more) gs
    → (front : List Assignment) × (b : Assignment) × (rest : List Assignment) × (gs ≡ front ++ b ∷ rest) × AllZip IsAssignment ws front × IsAssignment w b
zip_at [] more w [] h = absurd h
zip_at [] more w (g ∷ gs) h = ([], g, gs, refl, tt, h.0)
zip_at (v ∷ ws) more w [] h = absurd h
zip_at (v ∷ ws) more w (g ∷ gs) h = let r = zip_at ws more w gs h.1 in (g ∷ r.0, r.1, r.2, ap (λ l. g ∷ l) r.3, (h.0, r.4), r.5)

apart_front : (xs : List (List ℕ)) (y : List ℕ) (zs : List (List ℕ)) → IsDistinct bytes_eq (xs ++ y ∷ zs) → is_in xs y ≡ false
apart_front [] y zs h = refl
apart_front (x ∷ xs) y zs h = ap₂ (λ a b. a || b) (middle xs (IsDistinct-head bytes_eq x (xs ++ y ∷ zs) h)) (apart_front xs y zs (IsDistinct-tail bytes_eq x (xs ++ y ∷ zs) h))
  where
    middle : (us : List (List ℕ)) → AllByRecursion (λ z. bytes_eq x z ≡ false) (us ++ y ∷ zs) → bytes_eq x y ≡ false
    middle [] k = k.0
    middle (u ∷ us) k = middle us k.1

-- the first words give these, and their names are those of the set
pub record AreSoFar (ws : List (List ℕ)) (i : ℕ) (given : List Assignment) (has : List ℕ → Bool) : Type 0 where
  pub are : AllZip IsAssignment (take i ws) given
  pub apart : AreApart given
  pub seen : (x : List ℕ) → has x ≡ is_in (names_of given) x

bytes_laws : IsEquivalence bytes_eq
bytes_laws = record { refl = bytes_eq-self; symm = bytes_eq_comm; congr = λ x y z e. ap (λ u. bytes_eq u z) (bytes_eq-true x y e) }

or_comm : (a b : Bool) → (a || b) ≡ (b || a)
or_comm true true = refl
or_comm true false = refl
or_comm false true = refl
or_comm false false = refl

none_apart : AreApart []
unfolding IsDistinct
none_apart = tt

pub none_so_far : (ws : List (List ℕ)) → AreSoFar ws 0 [] (λ x. false)
none_so_far ws = record { are = tt; apart = none_apart; seen = λ x. refl }

module _ (ws : List (List ℕ)) (i : ℕ) (given : List Assignment) (has : List ℕ → Bool) (s : AreSoFar ws i given has) (w : List ℕ) (next : take (i + 1) ws ≡ take i ws ++ w ∷ []) where
  pub one_more : (a : Assignment) → IsAssignment w a → has a.name ≡ false → AreSoFar ws (i + 1) (given ++ a ∷ []) (add has a.name)
  one_more a h new = record {
    are = subst (λ l. AllZip IsAssignment l (given ++ a ∷ [])) (sym next) (AllZip-append IsAssignment (take i ws) (w ∷ []) given (a ∷ []) s.are (h, tt));
    apart = subst (IsDistinct bytes_eq) (sym (map-append (λ b. b.name) given (a ∷ []))) (IsDistinct-push bytes_laws (names_of given) a.name s.apart (any_agree _ _ (bytes_eq_comm a.name) (names_of given) ∙ sym (s.seen a.name) ∙ new));
    seen = λ x.
        ap (λ b. bytes_eq a.name x || b) (s.seen x) ∙ or_comm (bytes_eq a.name x) (is_in (names_of given) x)
        ∙ sym (any_push (λ y. bytes_eq y x) (names_of given) a.name) ∙ ap (λ l. is_in l x) (sym (map-append (λ b. b.name) given (a ∷ [])));
  }

  module _ (b : i < length ws) where
    wrong_here : ((a : Assignment) → IsAssignment w a → is_in (names_of given) a.name ≡ false → ⊥) → IsWrong HasGiven ws (i + 1)
    wrong_here none = inl (omega arith, omega arith, front, λ begins. refuse begins.0 begins.1.0 begins.1.1)
      where
        front : Begins HasGiven (take (i + 1 - 1) ws)
        front = let e : i ≡ i + 1 - 1 = omega arith in subst (λ n. Begins HasGiven (take n ws)) e ([], (given, record { are = subst (λ l. AllZip IsAssignment l given) (sym (append-nil (take i ws))) s.are; apart = s.apart }))

        refuse : (more : List (List ℕ)) (gs : List Assignment) → AreGiven (take (i + 1) ws ++ more) gs → ⊥
        refuse more gs h =
            let k = zip_at (take i ws) more w gs (subst (λ l. AllZip IsAssignment l gs) (ap (λ l. l ++ more) next ∙ append_assoc (take i ws) (w ∷ []) more) h.are) in
            let e : names_of gs ≡ names_of k.0 ++ k.1.name ∷ names_of k.2 = ap names_of k.3 ∙ map-append (λ b. b.name) k.0 (k.1 ∷ k.2) in
            none k.1 k.5 (ap (λ l. is_in l k.1.name) (zip_names (take i ws) given k.0 s.are k.4) ∙ apart_front (names_of k.0) k.1.name (names_of k.2) (subst (IsDistinct bytes_eq) e h.apart))

    pub wrong_word : ((a : Assignment) → IsAssignment w a → ⊥) → IsWrong HasGiven ws (i + 1)
    wrong_word none = wrong_here (λ a h e. none a h)

    pub wrong_twice : (a : Assignment) → IsAssignment w a → has a.name ≡ true → IsWrong HasGiven ws (i + 1)
    wrong_twice a h old = wrong_here (λ b k e.
        let f : true ≡ false = sym old ∙ s.seen a.name ∙ ap (is_in (names_of given)) (one_split w a b h k).0 ∙ e in cc)

pub next_text : (words : List (String Global)) (i : ℕ) (word : String Global) → i < length words → word ≡ get_or words i word → take (i + 1) (texts words) ≡ take i (texts words) ++ string_bytes word ∷ []
next_text words i word h is =
    take-map string_bytes (i + 1) words ∙ ap texts (take_more words i word h ∙ ap (λ x. take i words ++ x ∷ []) (sym is)) ∙ map-append string_bytes (take i words) (word ∷ []) ∙ ap (λ l. l ++ string_bytes word ∷ []) (sym (take-map string_bytes i words))
