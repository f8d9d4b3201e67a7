-- The entries of asks, place by place.
use Rattle.std.proofs.Common.{◌≡◌, ◌≢◌, ℕ, zero, suc, ◌+◌, ◌<◌, Bool, true, false, cond, List, [], ◌∷◌, ◌++◌, length, take, drop, Option, Some, None, refl, sym, ap, subst, ◌∙◌, arith, append-nil, append_assoc, length-append, eq-eqb, drop-drop}
use Rattle.std.specs.Prelude.{◌&&◌, not, slice_get, unwrap_or, count_by, nat_lt, bytes_eq}
use Rattle.std.specs.Option.{option_map}
use Rattle.std.proofs.lemmas.Option.{slice_get_past, same_Some}
use Rattle.std.proofs.lemmas.Bool.Decides.{nat_tests}
use Rattle.std.proofs.lemmas.Slice.Eq.{bytes_eq-Decides}
use Rattle.std.proofs.Math.Seq.{take-append_seam}
use Rattle.std.proofs.lemmas.List.Sums.{sum_by-append}
use Rattle.std.proofs.lemmas.Bool.{and_parts, not-true}
use Rattle.std.proofs.lemmas.Map.Keys.{any_passes_from_place}
use Rattle.basics.specs.Booleans.{not_both}
use Rattle.name_table.specs.declared.class.NameClass.{NameClass}
use Rattle.name_table.specs.declared.class.NameClass.TheVariants.{Location}
use Rattle.name_table.specs.declared.class.Target.{Target}
use Rattle.name_table.specs.declared.class.Space.{Space}
use Rattle.name_table.specs.declared.entry.Entry.{Entry}
use Rattle.name_table.specs.Rule.{same_class, same_space, space, is_valid, begins_zz, made_name, may_keep, class_number, space_number}
use Rattle.name_table.specs.Entries.{Ask, count_of, is_taken, keeps, kept_entry, made_entry, next, entries_after, entries_of}
use Rattle.name_table.specs.Laws.{ComesOf}
use Rattle.name_table.proofs.MadeNames.{made_begins, made_class, made_number}
use Rattle.name_table.specs.Asks.{some_from}
use Rattle.name_table.specs.PrismAsks.{name_at}

-- ---- lists

slice_mid : {A : Type 0} (xs : List A) (x : A) (ys : List A) (i : ℕ) → i ≡ length xs → slice_get ((xs ++ x ∷ []) ++ ys) i ≡ Some x
slice_mid [] x ys zero e = refl
slice_mid [] x ys (suc i) e = absurd (omega arith)
slice_mid (y ∷ xs) x ys zero e = absurd (omega arith)
slice_mid (y ∷ xs) x ys (suc i) e = slice_mid xs x ys i (omega arith)

take_mid : {A : Type 0} (xs : List A) (x : A) (ys : List A) (i : ℕ) → i ≡ length xs → take i ((xs ++ x ∷ []) ++ ys) ≡ xs
take_mid [] x ys zero e = refl
take_mid [] x ys (suc i) e = absurd (omega arith)
take_mid (y ∷ xs) x ys zero e = absurd (omega arith)
take_mid {A = A} (y ∷ xs) x ys (suc i) e = ap (λ (u : List A). y ∷ u) (take_mid xs x ys i (omega arith))

slice_take : {A : Type 0} (xs : List A) (i j : ℕ) (x : A) → i < j → slice_get xs i ≡ Some x → slice_get (take j xs) i ≡ Some x
slice_take [] i j x l h = absurd cc
slice_take (y ∷ xs) i zero x l h = absurd (omega arith)
slice_take (y ∷ xs) zero (suc j) x l h = h
slice_take (y ∷ xs) (suc i) (suc j) x l h = slice_take xs i j x (omega arith) h

pub count_push : {A : Type 0} (p : A → Bool) (xs ys : List A) → count_by p (xs ++ ys) ≡ count_by p xs + count_by p ys
count_push p xs ys = sum_by-append (λ x. cond (p x) 1 0) xs ys

count_one : {A : Type 0} (p : A → Bool) (x : A) (xs : List A) → count_by p (x ∷ xs) ≡ cond (p x) 1 0 + count_by p xs
count_one p x xs = let h = count_push p (x ∷ []) xs in omega arith

count_less : {A : Type 0} (p : A → Bool) (xs : List A) (i j : ℕ) (x : A) → i < j → slice_get xs i ≡ Some x → p x ≡ true → count_by p (take i xs) < count_by p (take j xs)
count_less p [] i j x l h t = absurd cc
count_less p (y ∷ xs) i zero x l h t = absurd (omega arith)
count_less p (y ∷ xs) zero (suc j) x l h t =
    let c = count_one p y (take j xs) in
    let e = one (p y) (ap p (same_Some y x h) ∙ t) in
    omega arith
  where
    one : (b : Bool) → b ≡ true → 0 < cond b 1 0
    one true e = omega arith
    one false e = absurd cc
count_less p (y ∷ xs) (suc i) (suc j) x l h t =
    let r = count_less p xs i j x (omega arith) h t in
    let c = count_one p y (take i xs) in
    let d = count_one p y (take j xs) in
    omega arith

-- ---- asks one after another

pub after_append : (t : Target) (es : List Entry) (xs ys : List Ask) → entries_after t es (xs ++ ys) ≡ entries_after t (entries_after t es xs) ys
after_append t es [] ys = refl
after_append t es (a ∷ xs) ys = after_append t (es ++ next t es a.0 a.1 ∷ []) xs ys

after_front : (t : Target) (es : List Entry) (asks : List Ask) → (zs : List Entry) × (entries_after t es asks ≡ es ++ zs)
after_front t es [] = ([], sym (append-nil es))
after_front t es (a ∷ asks) =
    let n = next t es a.0 a.1 in
    let r = after_front t (es ++ n ∷ []) asks in
    (n ∷ r.0, r.1 ∙ append_assoc es (n ∷ []) r.0)

length_after : (t : Target) (es : List Entry) (asks : List Ask) → length (entries_after t es asks) ≡ length es + length asks
length_after t es [] = omega arith
length_after t es (a ∷ asks) =
    let n = next t es a.0 a.1 in
    let h = length_after t (es ++ n ∷ []) asks in
    let l = length-append es (n ∷ []) in
    omega arith

pub one_each : (t : Target) (asks : List Ask) → length (entries_of t asks) ≡ length asks
one_each t asks = let h = length_after t [] asks in omega arith

pub first_alone : (t : Target) (asks more : List Ask) → take (length asks) (entries_of t (asks ++ more)) ≡ entries_of t asks
first_alone t asks more =
    let es = entries_of t asks in
    let f = after_front t es more in
    ap (λ (u : List Entry). take (length asks) u) (after_append t [] asks more ∙ f.1)
    ∙ ap (λ (n : ℕ). take n (es ++ f.0)) (sym (one_each t asks))
    ∙ take-append_seam es f.0

-- ---- the entry at a place

-- the entry at a place comes of the ask there and the entries before it
record Stands (t : Target) (es : List Entry) (asks : List Ask) (i j : ℕ) (e : Entry) : Type 0 where
  asked : Ask
  ask : slice_get asks i ≡ Some asked
  is : e ≡ next t (take j (entries_after t es asks)) asked.0 asked.1

stands : (t : Target) (es : List Entry) (asks : List Ask) (i j : ℕ) (e : Entry) → j ≡ length es + i → slice_get (entries_after t es asks) j ≡ Some e → Stands t es asks i j e
stands t es [] i j e q h =
    let p = slice_get_past es j (omega arith) in
    let r : None ≡ Some e = sym p ∙ h in
    absurd cc
stands t es (a ∷ asks) zero j e q h =
    let n = next t es a.0 a.1 in
    let f = after_front t (es ++ n ∷ []) asks in
    let l : j ≡ length es = omega arith in
    let k : Some n ≡ Some e = sym (slice_mid es n f.0 j l) ∙ ap (λ (u : List Entry). slice_get u j) (sym f.1) ∙ h in
    let w : take j (entries_after t (es ++ n ∷ []) asks) ≡ es = ap (λ (u : List Entry). take j u) f.1 ∙ take_mid es n f.0 j l in
    record { asked = a; ask = refl; is = sym (same_Some n e k) ∙ ap (λ (u : List Entry). next t u a.0 a.1) (sym w) }
stands t es (a ∷ asks) (suc i) j e q h =
    let n = next t es a.0 a.1 in
    let l = length-append es (n ∷ []) in
    let r = stands t (es ++ n ∷ []) asks i j e (omega arith) h in
    record { asked = r.asked; ask = r.ask; is = r.is }

-- ---- kept or made

-- an old name that is kept
pub record Keeps (t : Target) (es : List Entry) (c : NameClass) (x : List ℕ) : Type 0 where
  pub may : may_keep c ≡ true
  pub valid : is_valid t c x ≡ true
  pub plain : begins_zz x ≡ false
  pub free : is_taken t es (space t c) x ≡ false
  pub is : keeps t es c x ≡ true

pub data Comes (t : Target) (es : List Entry) (c : NameClass) (o : Option (List ℕ)) (e : Entry) : Type 0 where
  was_kept : (x : List ℕ) → o ≡ Some x → Keeps t es c x → e ≡ kept_entry c x → Comes t es c o e
  was_made : e ≡ made_entry es c → Comes t es c o e

keeps_parts : (t : Target) (es : List Entry) (c : NameClass) (x : List ℕ) → keeps t es c x ≡ true → Keeps t es c x
keeps_parts t es c x h =
    let p = and_parts (may_keep c) (is_valid t c x && (not (begins_zz x) && not (is_taken t es (space t c) x))) h in
    let q = and_parts (is_valid t c x) (not (begins_zz x) && not (is_taken t es (space t c) x)) p.1 in
    let r = and_parts (not (begins_zz x)) (not (is_taken t es (space t c) x)) q.1 in
    record { may = p.0; valid = q.0; plain = not-true (begins_zz x) r.0; free = not-true (is_taken t es (space t c) x) r.1; is = h }

pub comes : (t : Target) (es : List Entry) (c : NameClass) (o : Option (List ℕ)) (e : Entry) → e ≡ next t es c o → Comes t es c o e
comes t es c None e h = was_made h
comes t es c (Some x) e h = go (keeps t es c x) refl h
  where
    go : (b : Bool) → keeps t es c x ≡ b → e ≡ cond b (kept_entry c x) (made_entry es c) → Comes t es c (Some x) e
    go true k h = was_kept x refl (keeps_parts t es c x k) h
    go false k h = was_made h

-- ---- the laws

pub record Placed (t : Target) (asks : List Ask) (i : ℕ) (e : Entry) : Type 0 where
  pub asked : Ask
  pub ask : slice_get asks i ≡ Some asked
  pub comes : Comes t (take i (entries_of t asks)) asked.0 asked.1 e

pub placed : (t : Target) (asks : List Ask) (i : ℕ) (e : Entry) → slice_get (entries_of t asks) i ≡ Some e → Placed t asks i e
placed t asks i e h =
    let s = stands t [] asks i i e (omega arith) h in
    record { asked = s.asked; ask = s.ask; comes = comes t (take i (entries_of t asks)) s.asked.0 s.asked.1 e s.is }

made_plain : {A : Type 0} (c : NameClass) (n : ℕ) (x : List ℕ) → x ≡ made_name c n → begins_zz x ≡ false → A
made_plain c n x e h = not_both (begins_zz x) (ap begins_zz e ∙ made_begins c n) h

abbrev Kept : Ask → Entry → Type 0
Kept a e = (e.class ≡ a.0) × ((e.kept ≡ true → (a.1 ≡ Some e.name) × (begins_zz e.name ≡ false)) × ((a.1 ≡ Some e.name) × (begins_zz e.name ≡ false) → e.kept ≡ true))

kept_by : (t : Target) (es : List Entry) (a : Ask) (e : Entry) → Comes t es a.0 a.1 e → Kept a e
kept_by t es a e (was_kept x o k h) =
    let n : e.name ≡ x = ap (λ (u : Entry). u.name) h in
    (ap (λ (u : Entry). u.class) h, (λ q. (o ∙ ap (λ (u : List ℕ). Some u) (sym n), ap begins_zz n ∙ k.plain), λ q. ap (λ (u : Entry). u.kept) h))
kept_by t es a e (was_made h) = (
  ap (λ (u : Entry). u.class) h,
  (λ q. not_both e.kept q (ap (λ (u : Entry). u.kept) h), λ q. made_plain a.0 _ e.name (ap (λ (u : Entry). u.name) h) q.1),
)

pub kept_is_old : (t : Target) (asks : List Ask) (i : ℕ) (a : Ask) (e : Entry) → ComesOf t asks i a e → Kept a e
kept_is_old t asks i a e c =
    let p = placed t asks i e c.entry in
    let s : p.asked ≡ a = same_Some p.asked a (sym p.ask ∙ c.ask) in
    let F : Ask → Type 0 = λ u. Kept u e in
    subst F s (kept_by t (take i (entries_of t asks)) p.asked e p.comes)

made_by : (t : Target) (es : List Entry) (c : NameClass) (o : Option (List ℕ)) (e : Entry) → Comes t es c o e → e.kept ≡ false → e.name ≡ made_name e.class (count_of e.class es)
made_by t es c o e (was_kept x p k h) f = not_both e.kept (ap (λ (u : Entry). u.kept) h) f
made_by t es c o e (was_made h) f =
    let d : e.class ≡ c = ap (λ (u : Entry). u.class) h in
    ap (λ (u : Entry). u.name) h ∙ ap (λ (u : NameClass). made_name u (count_of u es)) (sym d)

pub others_are_made : (t : Target) (asks : List Ask) (i : ℕ) (e : Entry) → slice_get (entries_of t asks) i ≡ Some e → e.kept ≡ false → e.name ≡ made_name e.class (count_of e.class (take i (entries_of t asks)))
others_are_made t asks i e h f = let p = placed t asks i e h in made_by t _ p.asked.0 p.asked.1 e p.comes f

plain_by : (t : Target) (es : List Entry) (c : NameClass) (o : Option (List ℕ)) (e : Entry) → Comes t es c o e → e.kept ≡ true → begins_zz e.name ≡ false
plain_by t es c o e (was_kept x p k h) f = ap (λ (u : Entry). begins_zz u.name) h ∙ k.plain
plain_by t es c o e (was_made h) f = not_both e.kept f (ap (λ (u : Entry). u.kept) h)

pub kept_is_no_made : (t : Target) (asks : List Ask) (i : ℕ) (e : Entry) → slice_get (entries_of t asks) i ≡ Some e → e.kept ≡ true → begins_zz e.name ≡ false
kept_is_no_made t asks i e h f = let p = placed t asks i e h in plain_by t _ p.asked.0 p.asked.1 e p.comes f

location_by : (t : Target) (es : List Entry) (c : NameClass) (o : Option (List ℕ)) (e : Entry) → Comes t es c o e → e.class ≡ Location → e.kept ≡ false
location_by t es c o e (was_kept x p k h) l =
    let d : Location ≡ c = sym l ∙ ap (λ (u : Entry). u.class) h in
    not_both (may_keep c) k.may (ap may_keep (sym d))
location_by t es c o e (was_made h) l = ap (λ (u : Entry). u.kept) h

pub locations_are_made : (t : Target) (asks : List Ask) (i : ℕ) (e : Entry) → slice_get (entries_of t asks) i ≡ Some e → e.class ≡ Location → e.kept ≡ false
locations_are_made t asks i e h l = let p = placed t asks i e h in location_by t _ p.asked.0 p.asked.1 e p.comes l

-- ---- no two are alike

taken_at : (t : Target) (es : List Entry) (i : ℕ) (e : Entry) (s : Space) (x : List ℕ) → slice_get es i ≡ Some e → space t e.class ≡ s → x ≡ e.name → is_taken t es s x ≡ true
taken_at t es i e s x h k n =
    any_passes_from_place (λ (u : Entry). same_space (space t u.class) s && bytes_eq x u.name) es i e h
    (let a : same_space (space t e.class) s ≡ true = eq-eqb _ _ (ap space_number k) in
    let b : bytes_eq x e.name ≡ true = (bytes_eq-Decides x e.name).1 n in
    rw (a, b) refl)

-- both names are made
made_alike : (es : List Entry) (i j : ℕ) (e : Entry) (c d : NameClass) → i < j → slice_get es i ≡ Some e → e.class ≡ c → made_name c (count_of c (take i es)) ≡ made_name d (count_of d (take j es)) → ⊥
made_alike es i j e c d l h k q =
    let s : c ≡ d = made_class c d _ _ q in
    let n : count_of c (take i es) ≡ count_of d (take j es) = made_number c d _ _ q in
    let m : same_class e.class c ≡ true = eq-eqb _ _ (ap class_number k) in
    let a : count_of c (take i es) < count_of c (take j es) = count_less (λ (u : Entry). same_class u.class c) es i j e l h m in
    let b : count_of c (take j es) ≡ count_of d (take j es) = ap (λ (u : NameClass). count_of u (take j es)) s in
    omega arith

-- the later entry has the name of the earlier one
alike : (t : Target) (es : List Entry) (i j : ℕ) (c d : NameClass) (o p : Option (List ℕ)) (e f : Entry) → i < j → slice_get es i ≡ Some e
    → Comes t (take i es) c o e → Comes t (take j es) d p f → space t e.class ≡ space t f.class → e.name ≡ f.name → ⊥
alike t es i j c d o p e f l h g (was_kept x q k r) s n =
    let w = slice_take es i j e l h in
    let y : space t e.class ≡ space t d = s ∙ ap (λ (u : Entry). space t u.class) r in
    let z : x ≡ e.name = sym (n ∙ ap (λ (u : Entry). u.name) r) in
    not_both _ (taken_at t (take j es) i e (space t d) x w y z) k.free
alike t es i j c d o p e f l h (was_kept x q k r) (was_made m) s n =
    made_plain d _ x (sym (ap (λ (u : Entry). u.name) r) ∙ n ∙ ap (λ (u : Entry). u.name) m) k.plain
alike t es i j c d o p e f l h (was_made r) (was_made m) s n =
    made_alike es i j e c d l h (ap (λ (u : Entry). u.class) r) (sym (ap (λ (u : Entry). u.name) r) ∙ n ∙ ap (λ (u : Entry). u.name) m)

pub no_two_alike : (t : Target) (asks : List Ask) (i j : ℕ) (e f : Entry) → slice_get (entries_of t asks) i ≡ Some e → slice_get (entries_of t asks) j ≡ Some f → i ≢ j → space t e.class ≡ space t f.class → e.name ≡ f.name → ⊥
no_two_alike t asks i j e f h k d s n = by_test (nat_lt i j) refl
  where
    es : List Entry
    es = entries_of t asks

    p : Placed t asks i e
    p = placed t asks i e h

    q : Placed t asks j f
    q = placed t asks j f k

    by_test : (b : Bool) → nat_lt i j ≡ b → ⊥
    by_test true l = let a : i < j = grind (arith, nat_tests) in alike t es i j p.asked.0 q.asked.0 p.asked.1 q.asked.1 e f a h p.comes q.comes s n
    by_test false l = let a : j < i = grind (arith, nat_tests, d) in alike t es j i q.asked.0 p.asked.0 q.asked.1 p.asked.1 f e a k q.comes p.comes (sym s) (sym n)

-- ---- the entries of a class, taken from what the classes before leave
pub further : (es xs ys : List Entry) (a n : ℕ) → xs ≡ drop a es → ys ≡ drop n xs → ys ≡ drop (a + n) es
further es xs ys a n h k = k ∙ ap (λ (l : List Entry). drop n l) h ∙ drop-drop n a es

pub part : (es xs r : List Entry) (a n : ℕ) → xs ≡ drop a es → r ≡ take n xs → r ≡ some_from a n es
part es xs r a n h k = k ∙ ap (λ (l : List Entry). take n l) h

-- ---- the name at a place
pub named_at : (all es : List Entry) (e : Entry) (k : ℕ) → ((i : ℕ) → slice_get all (k + i) ≡ slice_get (e ∷ es) i) → name_at all k ≡ e.name
named_at all es e k h =
    let n : k ≡ k + 0 = omega arith in
    ap (name_at all) n ∙ ap (λ (o : Option Entry). unwrap_or (option_map (λ (z : Entry). z.name) o) []) (h 0)
