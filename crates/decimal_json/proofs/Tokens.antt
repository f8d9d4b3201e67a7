-- Several bytes of a piece at once.
use Rattle.std.proofs.Common.{◌≡◌, ℕ, zero, suc, ◌+◌, ◌-◌, ◌<◌, ◌≤◌, Bool, true, false, ◌&&◌, nat_eq, List, [], ◌∷◌, ◌++◌, take, drop, length, reverse, refl, sym, ap, subst, ◌∙◌, arith}
use Rattle.std.specs.Prelude.{Option, Some, None, IfSome, IfNone, Result, Ok, Err}
use Rattle.std.proofs.Math.ListN.{get_or}
use Rattle.std.proofs.Math.Seq.{take-add, split_at}
use Rattle.std.proofs.lemmas.List.{take_more, get_or-drop, length-take-le, length-drop}
use Rattle.bridge_io.specs.declared.reason.Reason.TheVariants.{TwiceMember}
use Rattle.decimal_json.specs.declared.tree.Member.{Member}
use Rattle.decimal_json.specs.declared.brackets.Frame.{Frame}
use Rattle.decimal_json.specs.declared.machine.Mode.TheVariants as modes
use Rattle.decimal_json.specs.declared.machine.State.{State}
use Rattle.decimal_json.specs.declared.machine.Stop.{Stop}
use Rattle.decimal_json.specs.declared.machine.Stop.TheVariants.{Memory, Here, At}
use Rattle.decimal_json.specs.declared.chars.Within.{Within}
use Rattle.decimal_json.specs.Grammar.{is_among, names}
use Rattle.decimal_json.specs.Kept.{AddsItem}
use Rattle.decimal_json.specs.Strings.{onward, is_between}
use Rattle.decimal_json.specs.declared.machine.Mode.{Mode}
use Rattle.decimal_json.specs.declared.number.Digits.{Digits}
use Rattle.decimal_json.specs.declared.chars.Within.TheVariants.{Between}
use Rattle.decimal_json.specs.declared.number.Stage.{Stage}
use Rattle.decimal_json.specs.declared.tree.Json.{Json}
use Rattle.decimal_json.specs.declared.tree.Json.TheVariants.{Number}
use Rattle.decimal_json.specs.declared.brackets.Frame.TheVariants.{InArray, InObject}
use Rattle.bridge_io.specs.declared.reason.Named.{Named}
use Rattle.frac_core.specs.declared.decimal.Decimal.{Decimal}
use Rattle.frac_core.specs.Numeral.{is_beyond, worth}
use Rattle.decimal_json.specs.Lang.{Lang}
use Rattle.decimal_json.specs.Grammar.{is_space}
use Rattle.decimal_json.specs.Number as num
use Rattle.decimal_json.specs.Number.{RunsOn}
use Rattle.decimal_json.specs.States.{Goes, goes_on, Steps, Settles, Quiet, Numbers, Halts, Along, From, leaving, stepping, took, waits, AllSpaces, Begins, Ends, closes, begin_now, begin_value, begin_items, begin_members, begin_key, in_string, in_word}
use Rattle.decimal_json.proofs.Steps as s
use Rattle.decimal_json.proofs.StepLemmas.{plain, with_mark, pushed, popped, goes_by, bracket_fine, by_mode, number_steps, number_begins, number_over, verdict_end, after_none, open_array_comma, open_object_comma, closes_is, closes_not, key_breaks, word_from, word_over}
use Rattle.decimal_json.proofs.Chains.{along_join, one, tail_is, advances_front, advances_memory, spaces_on, key_opens, first_opens, spelling, digits_along}

-- ---- along the bytes

pub along_word : (v w : List ℕ) (at : ℕ) (s t : State) → v ≡ w → Along at v s t → Along at w s t
along_word v w at s t e h = let F : List ℕ → Type 0 = λ x. Along at x s t in subst F e h

pub along_at : (v : List ℕ) (i j : ℕ) (s t : State) → i ≡ j → Along i v s t → Along j v s t
along_at v i j s t e h = let F : ℕ → Type 0 = λ x. Along x v s t in subst F e h

pub steps_at : (i j c : ℕ) (s : State) (r : Result State Stop) → i ≡ j → Steps i c s r → Steps j c s r
steps_at i j c s r e h = let F : ℕ → Type 0 = λ x. Steps x c s r in subst F e h

-- a front of a front, and a front of what is behind it
pub along_take : (w : List ℕ) (at n m : ℕ) (st t u : State) → n ≤ length w → Along at (take n w) st t → Along (at + n) (take m (drop n w)) t u → Along at (take (n + m) w) st u
along_take w at n m st t u l h k =
    along_word _ _ at st u (sym (take-add n m w)) (along_join (take n w) (take m (drop n w)) at st t u h (along_at (take m (drop n w)) (at + n) (at + length (take n w)) t u (ap (λ i. at + i) (sym (length-take-le n w l))) k))

pub along_more : (w : List ℕ) (at n : ℕ) (st t u : State) → n < length w → Along at (take n w) st t → Steps (at + n) (get_or w n 0) t (Ok u) → Along at (take (n + 1) w) st u
along_more w at n st t u l h k =
    along_word _ _ at st u (sym (take_more w n 0 l)) (along_join (take n w) (get_or w n 0 ∷ []) at st t u h (one _ _ t u (steps_at (at + n) _ _ t (Ok u) (ap (λ i. at + i) (sym (length-take-le n w (omega (arith, l))))) k)))

-- ---- from a state behind a front

pub from_memory : (at n : ℕ) (w : List ℕ) (u : State) → 0 < length w → From at w n u (Err (0, Memory))
from_memory at n w u l st h = advances_memory at w st l

-- one byte more
pub from_step : (at n : ℕ) (w : List ℕ) (u v : State) → n < length w → Steps (at + n) (get_or w n 0) u (Ok v) → From at w n u (Ok (n + 1, v))
from_step at n w u v l k st h = advances_front at (n + 1) w st v (omega (arith, l)) (omega arith) (along_more w at n st u v l h k)

pub from_halt : (at n : ℕ) (w : List ℕ) (u : State) (e : Stop) → n < length w → Halts (at + n) (get_or w n 0) u e → From at w n u (Err (n, e))
from_halt at n w u e l k st h = (take n w, drop (suc n) w, get_or w n 0, split_at w n 0 l, length-take-le n w (omega (arith, l)), u, h, k)

pub from_stepped : (at n : ℕ) (w : List ℕ) (u : State) (e : Stop) → n < length w → Steps (at + n) (get_or w n 0) u (Err e) → From at w n u (Err (n, e))
from_stepped at n w u e l k = from_halt at n w u e l k

-- what gives the same from a further state
pub from_on : (at n m : ℕ) (w : List ℕ) (u v : State) (result : Result (ℕ × State) (ℕ × Stop)) → n ≤ length w → Along (at + n) (take m (drop n w)) u v → From at w (n + m) v result → From at w n u result
from_on at n m w u v result l a f st h = f st (along_take w at n m st u v l h a)

pub from_all : (at n : ℕ) (w : List ℕ) (u : State) → 0 < length w → n ≡ length w → From at w n u (Ok (n, u))
from_all at n w u z e st h = advances_front at n w st u (omega (arith, e)) (omega (arith, e, z)) h

pub from_state : (at n : ℕ) (w : List ℕ) (u v : State) (result : Result (ℕ × State) (ℕ × Stop)) → u ≡ v → From at w n u result → From at w n v result
from_state at n w u v result e f = let F : State → Type 0 = λ x. From at w n x result in subst F e f

-- spaces first
pub from_spaces : (at n : ℕ) (w : List ℕ) (u : State) (result : Result (ℕ × State) (ℕ × Stop)) → waits u.mode ≡ true → AllSpaces (take n w) → From at w n u result → From at w 0 u result
from_spaces at n w u result e k f st h = let F : State → Type 0 = λ x. Along at (take n w) x u in f st (subst F h (spaces_on (take n w) at u e k))

-- ---- the bytes behind an offset

module _ (w rest : List ℕ) (n : ℕ) (e : rest ≡ take (length w - n) (drop n w)) where
  pub take_rest : (m : ℕ) → take m rest ≡ take m (drop n w)
  take_rest m = ap (λ (x : List ℕ). take m x) (e ∙ tail_is n w)

  pub byte_rest : (m : ℕ) → get_or rest m 0 ≡ get_or w (n + m) 0
  byte_rest m = ap (λ (x : List ℕ). get_or x m 0) (e ∙ tail_is n w) ∙ get_or-drop n w m 0

  pub within_rest : (m : ℕ) → n ≤ length w → m ≤ length rest → n + m ≤ length w
  within_rest m l k = let a = ap (λ (x : List ℕ). length x) (e ∙ tail_is n w) in let b = length_left n w in omega (arith, a, b, l, k)
    where
      length_left : (n : ℕ) (w : List ℕ) → length (drop n w) ≡ length w - n
      length_left n w = length-drop n w

  pub along_rest : (at m : ℕ) (u v : State) → Along (at + n) (take m rest) u v → Along (at + n) (take m (drop n w)) u v
  along_rest at m u v h = along_word _ _ (at + n) u v (take_rest m) h

  pub stops_rest : (m : ℕ) (t : Within) → n ≤ length w → n + m < length w → (m < length rest → onward t (get_or rest m 0) ≡ None) → onward t (get_or w (n + m) 0) ≡ None
  stops_rest m t l k h = ap (λ c. onward t c) (sym (byte_rest m)) ∙ h (inside l k)
    where
      inside : n ≤ length w → n + m < length w → m < length rest
      inside l k = let a = ap (λ (x : List ℕ). length x) (e ∙ tail_is n w) ∙ length-drop n w in omega (arith, a, l, k)

  pub runs_rest : (m : ℕ) (a v : Stage) → RunsOn a (take m rest) v → RunsOn a (take m (drop n w)) v
  runs_rest m a v h = let F : List ℕ → Type 0 = λ x. RunsOn a x v in subst F (take_rest m) h

  pub number_stops_rest : (m : ℕ) (v : Stage) → n ≤ length w → n + m < length w → (m < length rest → num.onward v (get_or rest m 0) ≡ None) → num.onward v (get_or w (n + m) 0) ≡ None
  number_stops_rest m v l k h = ap (λ c. num.onward v c) (sym (byte_rest m)) ∙ h (let a = ap (λ (x : List ℕ). length x) (e ∙ tail_is n w) ∙ length-drop n w in omega (arith, a, l, k))

-- ---- a byte that no string goes on with

pub text_halts : (at start c : ℕ) (t : Within) (text : List ℕ) (fs : List Frame) (b : Bool) → onward t c ≡ None → b ≡ is_between t && nat_eq c 34 → b ≡ false → Halts at c (record { mode = modes.InString start t text; frames = fs }) Here
text_halts at start c t text fs b o e f = (λ p i. s.text_stuck start t text (reverse fs) p c o (closes_not t c b e f), tt)

pub key_halts : (at start : ℕ) (done : List Member) (from c : ℕ) (t : Within) (text : List ℕ) (fs : List Frame) (b : Bool) → onward t c ≡ None → b ≡ is_between t && nat_eq c 34 → b ≡ false → Halts at c (record { mode = modes.InKey start done from t text; frames = fs }) Here
key_halts at start done from c t text fs b o e f = (λ p i. s.key_stuck start done from t text (reverse fs) p c o (closes_not t c b e f), tt)

pub key_halts_twice : (at start : ℕ) (done : List Member) (from c : ℕ) (t : Within) (text : List ℕ) (fs : List Frame) (b has : Bool) → b ≡ is_between t && nat_eq c 34 → b ≡ true → has ≡ is_among (names done) text → has ≡ true → Halts at c (record { mode = modes.InKey start done from t text; frames = fs }) (At from TwiceMember)
key_halts_twice at start done from c t text fs b has e f g h = (λ p i. let k = closes_is t c b e f in key_breaks start done from t text (reverse fs) p k.0 at c has i k.1 g h, tt)

pub from_halts : (at n m : ℕ) (w : List ℕ) (u v : State) (e : Stop) → n ≤ length w → n + m < length w → Along (at + n) (take m (drop n w)) u v → Halts (at + (n + m)) (get_or w (n + m) 0) v e → From at w n u (Err (n + m, e))
from_halts at n m w u v e l k a h = from_on at n m w u v (Err (n + m, e)) l a (from_halt at (n + m) w v e k h)

pub from_next : (at n m : ℕ) (w : List ℕ) (u v t : State) → n ≤ length w → n + m < length w → Along (at + n) (take m (drop n w)) u v → Steps (at + (n + m)) (get_or w (n + m) 0) v (Ok t) → From at w n u (Ok ((n + m) + 1, t))
from_next at n m w u v t l k a h = from_on at n m w u v (Ok ((n + m) + 1, t)) l a (from_step at (n + m) w v t k h)

pub from_end : (at n m : ℕ) (w : List ℕ) (u v : State) → n ≤ length w → 0 < length w → n + m ≡ length w → Along (at + n) (take m (drop n w)) u v → From at w n u (Ok (n + m, v))
from_end at n m w u v l z e a = from_on at n m w u v (Ok (n + m, v)) l a (from_all at (n + m) w v z e)

pub none_holds : {A : Type 0} (P : Type 0) (o : Option A) → o ≡ None → IfNone o P → P
none_holds {A} P o e h = let F : Option A → Type 0 = λ k. IfNone k P in subst F e h

pub some_holds : {A : Type 0} (P : A → Type 0) (o : Option A) (x : A) → o ≡ Some x → IfSome o P → P x
some_holds {A} P o x e h = let F : Option A → Type 0 = λ k. IfSome k P in subst F e h

-- the same mode, told otherwise
pub from_in_key : (at n start : ℕ) (w : List ℕ) (done : List Member) (from : ℕ) (t u : Within) (v z : List ℕ) (fs : List Frame) (result : Result (ℕ × State) (ℕ × Stop)) → t ≡ u → v ≡ z → From at w n (record { mode = modes.InKey start done from u z; frames = fs }) result → From at w n (record { mode = modes.InKey start done from t v; frames = fs }) result
from_in_key at n start w done from t u v z fs result e f h =
    let F : Within → Type 0 = λ x. From at w n (record { mode = modes.InKey start done from x v; frames = fs }) result in
    let G : List ℕ → Type 0 = λ x. From at w n (record { mode = modes.InKey start done from u x; frames = fs }) result in
    subst F (sym e) (subst G (sym f) h)

pub from_in_text : (at n start : ℕ) (w : List ℕ) (t u : Within) (v z : List ℕ) (fs : List Frame) (result : Result (ℕ × State) (ℕ × Stop)) → t ≡ u → v ≡ z → From at w n (record { mode = modes.InString start u z; frames = fs }) result → From at w n (record { mode = modes.InString start t v; frames = fs }) result
from_in_text at n start w t u v z fs result e f h =
    let F : Within → Type 0 = λ x. From at w n (record { mode = modes.InString start x v; frames = fs }) result in
    let G : List ℕ → Type 0 = λ x. From at w n (record { mode = modes.InString start u x; frames = fs }) result in
    subst F (sym e) (subst G (sym f) h)

-- ---- a step

-- a step in the place of a state
pub from_took : {A : Type 0} (at n : ℕ) (w : List ℕ) (u v : State) (answer : Result A Stop) (result : Result ℕ (ℕ × Stop)) → n < length w → result ≡ took n answer → Steps (at + n) (get_or w n 0) u (stepping answer v) → From at w n u (leaving result v)
from_took at n w u v answer result l e k = let F : Result ℕ (ℕ × Stop) → Type 0 = λ r. From at w n u (leaving r v) in subst F (sym e) (go answer k)
  where
    go : {A : Type 0} (answer : Result A Stop) → Steps (at + n) (get_or w n 0) u (stepping answer v) → From at w n u (leaving (took n answer) v)
    go (Ok a) k = from_step at n w u v l k
    go (Err e) k = from_halt at n w u e l k

-- a step from a mode
pub from_mode : {A : Type 0} (at n : ℕ) (w : List ℕ) (m : Mode) (fs : List Frame) (u v : State) (answer : Result A Stop) (result : Result ℕ (ℕ × Stop)) → u ≡ record { mode = m; frames = fs } → n < length w → result ≡ took n answer → Settles m → Goes (at + n) (get_or w n 0) (goes_on m (reverse fs)) (stepping answer v) → From at w n u (leaving result v)
from_mode at n w m fs u v answer result i l e k g = from_state at n w (record { mode = m; frames = fs }) u (leaving result v) (sym i) (from_took at n w (record { mode = m; frames = fs }) v answer result l e (by_mode (at + n) (get_or w n 0) m m fs (stepping answer v) refl k g))

pub from_number : {A : Type 0} (at n from : ℕ) (w : List ℕ) (d : Digits) (fs : List Frame) (u v : State) (answer : Result A Stop) (result : Result ℕ (ℕ × Stop)) → u ≡ record { mode = modes.InNumber from d; frames = fs } → n < length w → result ≡ took n answer → Numbers (at + n) (get_or w n 0) from d (reverse fs) (stepping answer v) → From at w n u (leaving result v)
from_number at n from w d fs u v answer result i l e g = from_state at n w (record { mode = modes.InNumber from d; frames = fs }) u (leaving result v) (sym i) (from_took at n w (record { mode = modes.InNumber from d; frames = fs }) v answer result l e (number_steps (at + n) (get_or w n 0) from (modes.InNumber from d) d fs (stepping answer v) refl g))

-- ---- a step, and what is behind it

pub from_then : (at n : ℕ) (w : List ℕ) (u v : State) (result : Result (ℕ × State) (ℕ × Stop)) → n < length w → Steps (at + n) (get_or w n 0) u (Ok v) → From at w (n + 1) v result → From at w n u result
from_then at n w u v result l k f st h = f st (along_more w at n st u v l h k)

-- the quotation mark of a key
pub from_key : (at n start : ℕ) (w : List ℕ) (done : List Member) (fs : List Frame) (text : List ℕ) (result : Result (ℕ × State) (ℕ × Stop)) → n < length w → get_or w n 0 ≡ 34 → text ≡ [] → From at w (n + 1) (record { mode = modes.InKey start done (at + n) Between text; frames = fs }) result → From at w n (record { mode = modes.Key start done; frames = fs }) result
from_key at n start w done fs text result l q e f =
    let F : ℕ → Type 0 = λ c. Steps (at + n) c (record { mode = modes.Key start done; frames = fs }) (Ok (record { mode = modes.InKey start done (at + n) Between []; frames = fs })) in
    let G : List ℕ → Type 0 = λ x. From at w (n + 1) (record { mode = modes.InKey start done (at + n) Between x; frames = fs }) result in
    from_then at n w (record { mode = modes.Key start done; frames = fs }) (record { mode = modes.InKey start done (at + n) Between []; frames = fs }) result l (subst F (sym q) (key_opens (at + n) start done fs)) (subst G e f)

pub from_first_key : (at n start : ℕ) (w : List ℕ) (none : List Member) (fs : List Frame) (text : List ℕ) (result : Result (ℕ × State) (ℕ × Stop)) → n < length w → get_or w n 0 ≡ 34 → none ≡ [] → text ≡ [] → From at w (n + 1) (record { mode = modes.InKey start none (at + n) Between text; frames = fs }) result → From at w n (record { mode = modes.FirstKey start; frames = fs }) result
from_first_key at n start w none fs text result l q i e f =
    let F : ℕ → Type 0 = λ c. Steps (at + n) c (record { mode = modes.FirstKey start; frames = fs }) (Ok (record { mode = modes.InKey start none (at + n) Between []; frames = fs })) in
    let G : List ℕ → Type 0 = λ x. From at w (n + 1) (record { mode = modes.InKey start none (at + n) Between x; frames = fs }) result in
    from_then at n w (record { mode = modes.FirstKey start; frames = fs }) (record { mode = modes.InKey start none (at + n) Between []; frames = fs }) result l (subst F (sym q) (first_opens (at + n) start none fs i)) (subst G e f)

-- ---- where a value begins

pub begins_value : (at c : ℕ) (u : State) → u.mode ≡ modes.Value → is_space c ≡ false → Begins at c u (begin_now (reverse u.frames))
begins_value at c u e k answer g = by_mode at c u.mode modes.Value u.frames answer e tt (goes_by at c (begin_now (reverse u.frames)) (begin_value (reverse u.frames)) (λ p q N t. s.begin_past (reverse u.frames) p c q N k t) (λ p b. s.begin_barred (reverse u.frames) p c k b) answer g)

pub begins_first : (at c start : ℕ) (fs gs : List Frame) (items : List Json) → is_space c ≡ false → nat_eq c 0x5d ≡ false → items ≡ [] → gs ≡ fs ++ InArray start items ∷ [] → Begins at c (record { mode = modes.First start; frames = fs }) (begin_now (reverse gs))
begins_first at c start fs gs items k l i e answer g =
    by_mode at c (modes.First start) (modes.First start) fs answer refl tt
    (goes_by at c (begin_now (InArray start [] ∷ reverse fs)) (begin_items start (reverse fs)) (λ p q N t. s.items_first _ _ p _ q N k l t) (λ p b. s.items_barred _ _ p _ k l b) answer
    (popped (λ u. Goes at c (begin_now u) answer) fs gs (InArray start []) (e ∙ ap (λ (u : List Json). fs ++ InArray start u ∷ []) i) g))

pub from_begins : {A : Type 0} (at n : ℕ) (w : List ℕ) (L : Lang Json) (u v : State) (answer : Result A Stop) (result : Result ℕ (ℕ × Stop)) → n < length w → result ≡ took n answer → Goes (at + n) (get_or w n 0) L (stepping answer v) → Begins (at + n) (get_or w n 0) u L → From at w n u (leaving result v)
from_begins at n w L u v answer result l e g b = from_took at n w u v answer result l e (b (stepping answer v) g)

-- a byte that opens a value, and what is behind it
pub from_opens : (at n : ℕ) (w : List ℕ) (L : Lang Json) (u v : State) (result : Result (ℕ × State) (ℕ × Stop)) → n < length w → From at w (n + 1) v result → Begins (at + n) (get_or w n 0) u L → Goes (at + n) (get_or w n 0) L (Ok v) → From at w n u result
from_opens at n w L u v result l f b g = from_then at n w u v result l (b (Ok v) g) f

-- the quotation mark of a string
pub from_quote : (at n : ℕ) (w : List ℕ) (fs : List Frame) (u : State) (text : List ℕ) (result : Result (ℕ × State) (ℕ × Stop)) → n < length w → get_or w n 0 ≡ 34 → text ≡ [] → Begins (at + n) (get_or w n 0) u (begin_now (reverse fs)) → From at w (n + 1) (record { mode = modes.InString (at + n) Between text; frames = fs }) result → From at w n u result
from_quote at n w fs u text result l q e b f =
    let G : List ℕ → Type 0 = λ x. From at w (n + 1) (record { mode = modes.InString (at + n) Between x; frames = fs }) result in
    from_then at n w u (record { mode = modes.InString (at + n) Between []; frames = fs }) result l
    (b (Ok (record { mode = modes.InString (at + n) Between []; frames = fs })) (λ p k. plain p (at + n) _ 0x22 (begin_now (reverse fs)) (λ i. in_string i Between [] (reverse fs)) k q (s.now_string (reverse fs) p))) (subst G e f)

-- the bracket of an object
pub from_brace : (at n : ℕ) (w : List ℕ) (fs : List Frame) (u : State) (result : Result (ℕ × State) (ℕ × Stop)) → n < length w → get_or w n 0 ≡ 123 → length fs < 1024 → Begins (at + n) (get_or w n 0) u (begin_now (reverse fs)) → From at w (n + 1) (record { mode = modes.FirstKey (at + n); frames = fs }) result → From at w n u result
from_brace at n w fs u result l q k b f =
    from_then at n w u (record { mode = modes.FirstKey (at + n); frames = fs }) result l
    (b (Ok (record { mode = modes.FirstKey (at + n); frames = fs })) (λ p e. with_mark p (at + n) _ 0x7b (begin_now (reverse fs)) (λ i. begin_members i (reverse fs)) _ e q (bracket_fine fs p.at k) refl (s.now_object (reverse fs) p))) f

-- ---- where a value has ended

pub ends_after : (at c : ℕ) (u : State) (x : Json) → u.mode ≡ modes.After x → Ends at c u (closes (reverse u.frames) x)
ends_after at c u x e answer g q = by_mode at c u.mode (modes.After x) u.frames answer e tt g

pub from_ends : {A : Type 0} (at n : ℕ) (w : List ℕ) (L : Lang Json) (u v : State) (answer : Result A Stop) (result : Result ℕ (ℕ × Stop)) → n < length w → result ≡ took n answer → Goes (at + n) (get_or w n 0) L (stepping answer v) → Quiet (stepping answer v) → Ends (at + n) (get_or w n 0) u L → From at w n u (leaving result v)
from_ends at n w L u v answer result l e g q b = from_took at n w u v answer result l e (b (stepping answer v) g q)

-- whatever is right behind a value's end at i is right from n on
abbrev pub Leads : ℕ → ℕ → List ℕ → Lang Json → ℕ → Lang Json → Type 0
Leads at n w L i M = (r : Result (ℕ × State) (ℕ × Stop)) → ((v : State) → Ends (at + i) (get_or w i 0) v M → From at w i v r) → (u : State) → Ends (at + n) (get_or w n 0) u L → From at w n u r

module _ (at n i : ℕ) (w : List ℕ) (L M : Lang Json) (l : i < length w) (h : Leads at n w L i M) where
  pub leads_on : (k : ℕ) (fs : List Frame) (x : Json) → k ≡ i + 1 → Goes (at + i) (get_or w i 0) M (Ok (record { mode = modes.After x; frames = fs })) → Leads at n w L k (closes (reverse fs) x)
  leads_on k fs x e g r f u b =
      let s : State = record { mode = modes.After x; frames = fs } in
      let G : ℕ → Type 0 = λ j. (v : State) → Ends (at + j) (get_or w j 0) v (closes (reverse fs) x) → From at w j v r in
      h r (λ v o. from_then at i w v s r l (o (Ok s) g tt) (subst G e f s (ends_after _ _ s x refl))) u b

  pub leads_end : (k : ℕ) (fs : List Frame) (x : Json) (u : State) → k ≡ i + 1 → k ≡ length w → Goes (at + i) (get_or w i 0) M (Ok (record { mode = modes.After x; frames = fs })) → Ends (at + n) (get_or w n 0) u L → From at w n u (Ok (k, record { mode = modes.After x; frames = fs }))
  leads_end k fs x u e z g b =
      let s : State = record { mode = modes.After x; frames = fs } in
      let F : ℕ → Type 0 = λ j. From at w j s (Ok (k, s)) in
      h (Ok (k, s)) (λ v o. from_then at i w v s (Ok (k, s)) l (o (Ok s) g tt) (subst F e (from_all at k w s (omega (arith, l)) z))) u b

  pub leads_halt : (u : State) (e : Stop) → Goes (at + i) (get_or w i 0) M (Err e) → Quiet (Err e) → Ends (at + n) (get_or w n 0) u L → From at w n u (Err (i, e))
  leads_halt u e g q b = h (Err (i, e)) (λ v o. from_stepped at i w v e l (o (Err e) g q)) u b

pub comma_is_none : (c : ℕ) → c ≡ 44 → is_space c ≡ false
comma_is_none c e = ap is_space e

-- a comma behind an item of an array, which was added in its place
pub from_item : (at n : ℕ) (w : List ℕ) (fs gs : List Frame) (x : Json) (u v : State) → n < length w → get_or w n 0 ≡ 44 → AddsItem fs x gs → v ≡ record { mode = modes.Value; frames = gs } → Ends (at + n) (get_or w n 0) u (closes (reverse fs) x) → From at w n u (Ok (n + 1, v))
from_item at n w fs gs x u v l q a e b =
    let s : State = record { mode = modes.Value; frames = gs } in
    let r : Result State Stop = Ok s in
    let F : State → Type 0 = λ y. From at w n u (Ok (n + 1, y)) in
    subst F (sym e) (from_step at n w u s l
    (b r (pushed (λ k. Goes (at + n) (get_or w n 0) (closes k x) r) a.outer fs (InArray a.start a.items) a.before
    (λ p j. plain p (at + n) _ 0x2c (closes (InArray a.start a.items ∷ reverse a.outer) x) (λ h. begin_value (reverse gs)) j q (open_array_comma a.outer x p gs a.start a.items (a.items ++ x ∷ []) refl a.behind))) tt))

-- the same brackets and the same value, told otherwise
pub ends_same : (at c : ℕ) (u : State) (fs gs : List Frame) (x y : Json) → gs ≡ fs → y ≡ x → Ends at c u (closes (reverse fs) x) → Ends at c u (closes (reverse gs) y)
ends_same at c u fs gs x y e f h =
    let F : List Frame → Type 0 = λ k. Ends at c u (closes (reverse k) y) in
    let G : Json → Type 0 = λ k. Ends at c u (closes (reverse fs) k) in
    subst F (sym e) (subst G (sym f) h)

-- no bracket is open
pub from_closed : (at n : ℕ) (w : List ℕ) (fs : List Frame) (x : Json) (u : State) → n < length w → get_or w n 0 ≡ 44 → fs ≡ [] → Ends (at + n) (get_or w n 0) u (closes (reverse fs) x) → From at w n u (Err (n, Here))
from_closed at n w fs x u l q e b = from_stepped at n w u Here l (b (Err Here) (λ p i. after_none fs x p _ e (comma_is_none _ q)) tt)

-- a comma in an object
pub from_comma : (at n start : ℕ) (w : List ℕ) (fs gs : List Frame) (f : Frame) (o : List Member × Named) (x : Json) (more : List Member) (u : State) (result : Result (ℕ × State) (ℕ × Stop)) → n < length w → get_or w n 0 ≡ 44 → fs ≡ gs ++ f ∷ [] → f ≡ InObject start o → more ≡ o.0 ++ record { key = o.1; value = x } ∷ [] → Ends (at + n) (get_or w n 0) u (closes (reverse fs) x) → From at w (n + 1) (record { mode = modes.Key start more; frames = gs }) result → From at w n u result
from_comma at n start w fs gs f o x more u result l q e i m b k =
    let r : Result State Stop = Ok (record { mode = modes.Key start more; frames = gs }) in
    from_then at n w u (record { mode = modes.Key start more; frames = gs }) result l
    (b r (pushed (λ v. Goes (at + n) (get_or w n 0) (closes v x) r) gs fs (InObject start o) (e ∙ ap (λ (y : Frame). gs ++ y ∷ []) i)
    (λ p j. plain p (at + n) _ 0x2c (closes (InObject start o ∷ reverse gs) x) (λ h. begin_key start more (reverse gs)) j q (open_object_comma gs x p start o more m))) tt) k

-- ---- a word that is seen to its end

-- the state behind the bytes of a word, where its value ends
pub word_passes : (bs : List ℕ) (r : _) (x : Json) (fs : List Frame) (s : State) → s ≡ record { mode = modes.Word r x; frames = fs } → r.now ≡ bs → (at : ℕ) → (v : State) × Along at bs (record { mode = modes.Word r x; frames = fs }) v × ((i c : ℕ) → Ends i c v (closes (reverse fs) x))
word_passes [] r x fs s o e at = (record { mode = modes.Word r x; frames = fs }, refl, λ i c answer g q. by_mode i c (modes.Word r x) (modes.Word r x) fs answer refl tt (word_over i c r.now x (reverse fs) answer e g))
word_passes (b ∷ bs) r x fs s o e at =
    let m : Mode = modes.Word (record { ref_ptr = (0, 0); now = bs }) x in
    let t = word_passes bs (record { ref_ptr = (0, 0); now = bs }) x fs (record { mode = m; frames = fs }) refl refl (at + 1) in
    (t.0, (record { mode = m; frames = fs }, by_mode at b (modes.Word r x) (modes.Word r x) fs (Ok (record { mode = m; frames = fs })) refl tt (λ p f. plain p at b b (in_word r.now x (reverse fs)) (λ k. in_word bs x (reverse fs)) f refl (word_from p b b r.now bs x (reverse fs) e refl)), t.1), t.2)

-- ---- a number that is seen to its end

first_of : (n m : ℕ) (w : List ℕ) → n < length w → take (suc m) (drop n w) ≡ get_or w n 0 ∷ take m (drop (suc n) w)
first_of n m [] l = absurd (omega arith)
first_of zero m (c ∷ w) l = refl
first_of (suc n) m (c ∷ w) l = first_of n m w (omega (arith, l))

pub front_of : (n m k : ℕ) (w : List ℕ) → n < length w → k ≡ suc m → take k (drop n w) ≡ get_or w n 0 ∷ take m (drop (n + 1) w)
front_of n m k w l e = ap (λ i. take i (drop n w)) e ∙ first_of n m w l ∙ ap (λ i. get_or w n 0 ∷ take m (drop i w)) (one_more n)
  where
    one_more : (n : ℕ) → suc n ≡ n + 1
    one_more n = omega arith

module _ (at n m : ℕ) (w : List ℕ) (fs : List Frame) (a v : Stage) (d : Decimal) where
  pub from_digits : (u : State) (text : List ℕ) (result : Result (ℕ × State) (ℕ × Stop)) → (n + 1) + m < length w → num.first (get_or w n 0) ≡ Some a → RunsOn a (take m (drop (n + 1) w)) v → num.onward v (get_or w ((n + 1) + m) 0) ≡ None → num.is_end v ≡ true → text ≡ get_or w n 0 ∷ take m (drop (n + 1) w) → is_beyond text ≡ false → d ≡ worth text →
      Begins (at + n) (get_or w n 0) u (begin_now (reverse fs)) → ((x : State) → Ends (at + ((n + 1) + m)) (get_or w ((n + 1) + m) 0) x (closes (reverse fs) (Number (at + n) d)) → From at w ((n + 1) + m) x result) → From at w n u result
  unfolding spelling
  from_digits u text result l f h o i t y z b k =
      let c = get_or w n 0 in
      let S = digits_along (take m (drop (n + 1) w)) (at + (n + 1)) (at + n) a v (c ∷ []) false fs h in
      let D : Digits = record { stage = v; text = c ∷ take m (drop (n + 1) w); before = S.before } in
      let B : is_beyond D.text ≡ false = ap (λ (x : List ℕ). is_beyond x) (sym t) ∙ y in
      from_then at n w u (spelling (at + n) a (c ∷ []) false fs) result (omega (arith, l))
      (b (Ok (spelling (at + n) a (c ∷ []) false fs)) (λ p e. number_begins p (at + n) c a (c ∷ []) false fs e f refl refl))
      (from_on at (n + 1) m w (spelling (at + n) a (c ∷ []) false fs) (spelling (at + n) v (c ∷ take m (drop (n + 1) w)) S.before fs) result (omega (arith, l)) S.along
      (k (spelling (at + n) v (c ∷ take m (drop (n + 1) w)) S.before fs) (λ answer g q. number_steps _ _ (at + n) (modes.InNumber (at + n) D) D fs answer refl (number_over _ _ (at + n) D fs d answer (verdict_end D i ∙ B) o i B (z ∙ ap (λ (x : List ℕ). worth x) t) g q))))
