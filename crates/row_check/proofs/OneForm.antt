-- A line holds one thing, so a file has one content.
use Rattle.std.proofs.Common.{◌≡◌, ℕ, ◌<◌, arith, List, [], ◌∷◌, ◌++◌, Option, Some, None, Result, Ok, Err, refl, sym, ap, ◌∙◌, subst, inl, inr, append-nil, nat_eq, false, length}
use Rattle.std.specs.List.{list_any}
use Rattle.frac_core.specs.Fraction.{Fraction}
use Rattle.op_trees.specs.declared.tree.Value.TheVariants.{Number}
use Rattle.process_core.specs.Ready.{Name}
use Rattle.process_core.specs.Steps.{Process}
use Rattle.process_core.specs.declared.data.State.{State}
use Rattle.process_texts.specs.Laws.{OneValueText, OneStateText, OneNameText}
use Rattle.process_texts.specs.Given.{IsValue}
use Rattle.process_texts.specs.Names.{SpellsName}
use Rattle.process_texts.specs.States.{SpellsState}
use Rattle.row_check.specs.declared.data.Row.{Row}
use Rattle.row_check.specs.declared.data.Counts.{Counts}
use Rattle.row_check.specs.declared.data.PathStep.{PathStep}
use Rattle.row_check.specs.Lines.{Line, lines, Hold, BreakAt, AreRead, AreReadAs, AreReadBehind}
use Rattle.row_check.specs.Texts.{IsStateText, IsNameText, IsProbability}
use Rattle.row_check.specs.Forms.{IsHeader, IsStateLine, IsLabelPart, IsNumbered, IsRowText, IsRowLine, IsCounts, IsStepLabel, IsStepLine, IsBoundLine, path_of, rows_said, ReadsFirst, ReadsBounds}
use Rattle.row_check.specs.Laws.{BoundsReadOnce, PathReadOnce, StatesReadOnce, RowsReadOnce}
use Rattle.row_check.proofs.Parts.{front_same, last_same, lacks_mark, number_apart, number_no_colon, number_once}

abbrev pub HoldsOne : {C : Type 0} → (List C → C → Type 0) → Type 0
HoldsOne {C} Next = (before : List C) (c d : C) → Next before c → Next before d → c ≡ d

-- ---- lines
module _ {C : Type 0} (Next : List C → List ℕ → C → Type 0) (once : (text : List ℕ) → HoldsOne (λ before. Next before text)) where
  pub hold_once : (before : List C) (ls : List Line) (cs ds : List C) → Hold Next before ls cs → Hold Next before ls ds → cs ≡ ds
  hold_once before [] cs ds h k = h ∙ sym k
  hold_once before (l ∷ ls) [] ds h k = absurd h
  hold_once before (l ∷ ls) (c ∷ cs) [] h k = absurd k
  hold_once before (l ∷ ls) (c ∷ cs) (d ∷ ds) h k =
      let e = once l.text before c d h.0 k.0 in
      let r = hold_once (before ++ c ∷ []) ls cs ds h.1 (subst (λ z. Hold Next (before ++ z ∷ []) ls ds) (sym e) k.1) in
      cc

  pub hold_or_break : (before : List C) (ls : List Line) (cs : List C) (at : ℕ) → Hold Next before ls cs → BreakAt Next before ls at → ⊥
  hold_or_break before [] cs at h k = k
  hold_or_break before (l ∷ ls) [] at h k = h
  hold_or_break before (l ∷ ls) (c ∷ cs) at h (inl k) = hold_or_break (before ++ c ∷ []) ls cs at h.1 (subst (λ z. BreakAt Next (before ++ z ∷ []) ls at) (once l.text before k.0 c k.1 h.0) k.2)
  hold_or_break before (l ∷ ls) (c ∷ cs) at h (inr k) = k.0 c h.0

  pub break_once : (before : List C) (ls : List Line) (at to : ℕ) → BreakAt Next before ls at → BreakAt Next before ls to → at ≡ to
  break_once before [] at to h k = absurd h
  break_once before (l ∷ ls) at to (inl h) (inl k) = break_once (before ++ h.0 ∷ []) ls at to h.2 (subst (λ z. BreakAt Next (before ++ z ∷ []) ls to) (once l.text before k.0 h.0 k.1 h.1) k.2)
  break_once before (l ∷ ls) at to (inl h) (inr k) = absurd (k.0 h.0 h.1)
  break_once before (l ∷ ls) at to (inr h) (inl k) = absurd (h.0 k.0 k.1)
  break_once before (l ∷ ls) at to (inr h) (inr k) = h.1 ∙ sym k.1

  pub read_once : (ls : List Line) (r q : Result (List C) ℕ) → AreRead Next ls r → AreRead Next ls q → r ≡ q
  read_once ls (Ok cs) (Ok ds) h k = ap Ok (hold_once [] ls cs ds h k)
  read_once ls (Ok cs) (Err at) h k = absurd (hold_or_break [] ls cs at h k)
  read_once ls (Err at) (Ok cs) h k = absurd (hold_or_break [] ls cs at k h)
  read_once ls (Err at) (Err to) h k = ap Err (break_once [] ls at to h k)

  pub as_once : {Y : Type 0} (make : List C → Y) (ls : List Line) (r q : Result Y ℕ) → AreReadAs Next make ls r → AreReadAs Next make ls q → r ≡ q
  as_once make ls (Ok x) (Ok y) h k = ap Ok (h.2 ∙ ap make (hold_once [] ls h.0 k.0 h.1 k.1) ∙ sym k.2)
  as_once make ls (Ok x) (Err at) h k = absurd (hold_or_break [] ls h.0 at h.1 k)
  as_once make ls (Err at) (Ok y) h k = absurd (hold_or_break [] ls k.0 at k.1 h)
  as_once make ls (Err at) (Err to) h k = ap Err (break_once [] ls at to h k)

-- a first line, and the rest
pub behind_once : {X Y : Type 0} (Is : List ℕ → X → Type 0) (Rest : X → List Line → Result Y ℕ → Type 0) → ((text : List ℕ) (x y : X) → Is text x → Is text y → x ≡ y) →
    ((x : X) (ls : List Line) (r q : Result Y ℕ) → Rest x ls r → Rest x ls q → r ≡ q) → (end : ℕ) (ls : List Line) (r q : Result Y ℕ) → AreReadBehind Is Rest end ls r → AreReadBehind Is Rest end ls q → r ≡ q
behind_once Is Rest one rest end [] (Ok x) q h k = absurd h
behind_once Is Rest one rest end [] (Err at) (Ok y) h k = absurd k
behind_once Is Rest one rest end [] (Err at) (Err to) h k = ap Err (h ∙ sym k)
behind_once Is Rest one rest end (l ∷ ls) (Ok x) (Ok y) h k = rest h.0 ls (Ok x) (Ok y) h.2 (subst (λ z. Rest z ls (Ok y)) (one l.text k.0 h.0 k.1 h.1) k.2)
behind_once Is Rest one rest end (l ∷ ls) (Ok x) (Err to) h (inl k) = absurd (k.0 h.0 h.1)
behind_once Is Rest one rest end (l ∷ ls) (Ok x) (Err to) h (inr k) = rest h.0 ls (Ok x) (Err to) h.2 (subst (λ z. Rest z ls (Err to)) (one l.text k.0 h.0 k.1 h.1) k.2)
behind_once Is Rest one rest end (l ∷ ls) (Err at) (Ok y) (inl h) k = absurd (h.0 k.0 k.1)
behind_once Is Rest one rest end (l ∷ ls) (Err at) (Ok y) (inr h) k = rest h.0 ls (Err at) (Ok y) h.2 (subst (λ z. Rest z ls (Ok y)) (one l.text k.0 h.0 k.1 h.1) k.2)
behind_once Is Rest one rest end (l ∷ ls) (Err at) (Err to) (inl h) (inl k) = ap Err (h.1 ∙ sym k.1)
behind_once Is Rest one rest end (l ∷ ls) (Err at) (Err to) (inl h) (inr k) = absurd (h.0 k.0 k.1)
behind_once Is Rest one rest end (l ∷ ls) (Err at) (Err to) (inr h) (inl k) = absurd (k.0 h.0 h.1)
behind_once Is Rest one rest end (l ∷ ls) (Err at) (Err to) (inr h) (inr k) = rest h.0 ls (Err at) (Err to) h.2 (subst (λ z. Rest z ls (Err to)) (one l.text k.0 h.0 k.1 h.1) k.2)

-- ---- each form
same_values : (s t : State) → s.values ≡ t.values → s ≡ t
same_values s t e = ap (λ (v : _). let r : State = record { values = v } in r) e

same_row : (a b c d e f : ℕ) (w v : Fraction) (l m : Option Name) → a ≡ b → c ≡ d → e ≡ f → w ≡ v → l ≡ m →
    ◌≡◌ {A = Row} (record { source = a; choice = c; target = e; weight = w; label = l }) (record { source = b; choice = d; target = f; weight = v; label = m })
same_row a b c d e f w v l m p q r s t = cc

same_counts : (a b c d e f : ℕ) → a ≡ b → c ≡ d → e ≡ f → ◌≡◌ {A = Counts} (record { states = a; choices = c; transitions = e }) (record { states = b; choices = d; transitions = f })
same_counts a b c d e f p q r = cc

same_step : (l m : Option Name) (s t : State) → l ≡ m → s ≡ t → ◌≡◌ {A = PathStep} (record { label = l; state = s }) (record { label = m; state = t })
same_step l m s t e f = cc

header_once : (p : Process) (text : List ℕ) (x y : Unit {0}) → IsHeader p text x → IsHeader p text y → x ≡ y
header_once p text x y h k = refl

module _ (values : OneValueText) (states : OneStateText) (names : OneNameText) where
  state_text_once : (a b : List ℕ) (s t : State) → a ≡ b → IsStateText a s → IsStateText b t → s ≡ t
  state_text_once a b s t e h k = same_values s t (states b s.values t.values (subst (λ u. SpellsState u s.values) e h.spells) k.spells)

  name_once : (a b : List ℕ) (x y : Name) → a ≡ b → IsNameText a x → IsNameText b y → x ≡ y
  name_once a b x y e h k = names b x y (subst (λ u. SpellsName u x) e h.spells) k.spells

  probability_once : (a b : List ℕ) (x y : Fraction) → a ≡ b → IsProbability a x → IsProbability b y → x ≡ y
  probability_once a b x y e h k = let f = (values b (Number x) (Number y) false false (subst (λ u. IsValue u (Number x) false) e h.spells) k.spells).0 in cc

  state_once : (text : List ℕ) (before : List State) (s t : State) → IsStateLine before text s → IsStateLine before text t → s ≡ t
  state_once text before s t h k =
      let f = front_same 58 h.number k.number h.state k.state (number_no_colon h.number _ h.counts) (number_no_colon k.number _ k.counts) (sym h.parts ∙ k.parts) in
      state_text_once h.state k.state s t f.1 h.state_is k.state_is

  label_part_once : (a b c d : List ℕ) (l m : Option Name) → list_any (nat_eq 32) a ≡ false → list_any (nat_eq 32) b ≡ false → IsLabelPart c l → IsLabelPart d m → a ++ c ≡ b ++ d → (a ≡ b) × (l ≡ m)
  label_part_once a b c d None None h k p q e = (sym (append-nil a) ∙ ap (λ z. a ++ z) (sym p) ∙ e ∙ ap (λ z. b ++ z) q ∙ append-nil b, refl)
  label_part_once a b c d None (Some m) h k p q e = absurd (lacks_mark 32 a b q.0 h (sym (append-nil a) ∙ ap (λ z. a ++ z) (sym p) ∙ e ∙ ap (λ z. b ++ z) q.1))
  label_part_once a b c d (Some l) None h k p q e = absurd (lacks_mark 32 b a p.0 k (sym (append-nil b) ∙ ap (λ z. b ++ z) (sym q) ∙ sym e ∙ ap (λ z. a ++ z) p.1))
  label_part_once a b c d (Some l) (Some m) h k p q e =
      let f = front_same 32 a b p.0 q.0 h k (ap (λ z. a ++ z) (sym p.1) ∙ e ∙ ap (λ z. b ++ z) q.1) in
      (f.0, ap Some (name_once p.0 q.0 l m f.1 p.2 q.2))

  numbered_once : (text : List ℕ) (a b c d e f : ℕ) (x y : List ℕ) → IsNumbered text a b c x → IsNumbered text d e f y → (a ≡ d) × (b ≡ e) × (c ≡ f) × (x ≡ y)
  numbered_once text a b c d e f x y h k =
      let i = front_same 32 h.source_text k.source_text _ _ (number_apart h.source_text a h.source_is) (number_apart k.source_text d k.source_is) (sym h.parts ∙ k.parts) in
      let j = front_same 32 h.choice_text k.choice_text _ _ (number_apart h.choice_text b h.choice_is) (number_apart k.choice_text e k.choice_is) i.1 in
      let o = front_same 32 h.target_text k.target_text _ _ (number_apart h.target_text c h.target_is) (number_apart k.target_text f k.target_is) j.1 in
      (number_once _ _ a d i.0 h.source_is k.source_is, number_once _ _ b e j.0 h.choice_is k.choice_is, number_once _ _ c f o.0 h.target_is k.target_is, o.1)

  pub row_text_once : (text : List ℕ) (r q : Row) → IsRowText text r → IsRowText text q → r ≡ q
  row_text_once text r q h k =
      let n = numbered_once text r.source r.choice r.target q.source q.choice q.target (h.weight ++ h.label) (k.weight ++ k.label) h.numbers k.numbers in
      let d = label_part_once h.weight k.weight h.label k.label r.label q.label h.weight_apart k.weight_apart h.label_is k.label_is n.3 in
      same_row _ _ _ _ _ _ _ _ _ _ n.0 n.1 n.2 (probability_once h.weight k.weight r.weight q.weight d.0 h.weight_is k.weight_is) d.1

  row_once : (n : ℕ) (text : List ℕ) (before : List Row) (r q : Row) → IsRowLine n before text r → IsRowLine n before text q → r ≡ q
  row_once n text before r q h k = row_text_once text r q h.row k.row

  counts_once : (text : List ℕ) (c d : Counts) → IsCounts text c → IsCounts text d → c ≡ d
  counts_once text c d h k =
      let i = front_same 32 h.states k.states _ _ (number_apart h.states c.states h.states_are) (number_apart k.states d.states k.states_are) (sym h.parts ∙ k.parts) in
      let j = front_same 32 h.choices k.choices _ _ (number_apart h.choices c.choices h.choices_are) (number_apart k.choices d.choices k.choices_are) i.1 in
      same_counts _ _ _ _ _ _ (number_once _ _ c.states d.states i.0 h.states_are k.states_are) (number_once _ _ c.choices d.choices j.0 h.choices_are k.choices_are)
      (number_once _ _ c.transitions d.transitions j.1 h.transitions_are k.transitions_are)

  label_once : (a b : List ℕ) (l m : Option Name) → a ≡ b → IsStepLabel a l → IsStepLabel b m → l ≡ m
  label_once a b None None e h k = refl
  label_once a b None (Some m) e h k = absurd (k.0 (sym e ∙ h))
  label_once a b (Some l) None e h k = absurd (h.0 (e ∙ k))
  label_once a b (Some l) (Some m) e h k = ap Some (name_once a b l m e h.1 k.1)

  step_once : (text : List ℕ) (before : List PathStep) (s t : PathStep) → IsStepLine before text s → IsStepLine before text t → s ≡ t
  step_once text before s t h k =
      let f = last_same 32 h.label k.label h.state k.state h.last k.last (sym h.parts ∙ k.parts) in
      same_step s.label t.label s.state t.state (label_once h.label k.label s.label t.label f.0 h.label_is k.label_is)
      (state_text_once h.state k.state s.state t.state f.1 h.state_is k.state_is)

  bound_once : (n : ℕ) (text : List ℕ) (before : List Fraction) (x y : Fraction) → IsBoundLine n before text x → IsBoundLine n before text y → x ≡ y
  bound_once n text before x y h k =
      let f = front_same 58 h.number k.number h.value k.value (number_no_colon h.number _ h.counts) (number_no_colon k.number _ k.counts) (sym h.parts ∙ k.parts) in
      probability_once h.value k.value x y f.1 h.value_is k.value_is

  too_few : (n : ℕ) (bytes : List ℕ) (xs ys : List Fraction) → ReadsBounds n bytes (Ok xs) → Hold (IsBoundLine n) [] (lines bytes) ys → length ys < n → ⊥
  too_few n bytes xs ys h k l =
      let e = ap length (hold_once (IsBoundLine n) (bound_once n) [] (lines bytes) xs ys h.0 k) in
      let m = h.1 in
      omega arith

  -- ---- whole files
  pub bounds_read_once : BoundsReadOnce
  bounds_read_once n bytes (Ok xs) (Ok ys) h k = ap Ok (hold_once (IsBoundLine n) (bound_once n) [] (lines bytes) xs ys h.0 k.0)
  bounds_read_once n bytes (Ok xs) (Err at) h (inl k) = absurd (hold_or_break (IsBoundLine n) (bound_once n) [] (lines bytes) xs at h.0 k)
  bounds_read_once n bytes (Ok xs) (Err at) h (inr k) = absurd (too_few n bytes xs k.0 h k.1 k.2)
  bounds_read_once n bytes (Err at) (Ok ys) (inl h) k = absurd (hold_or_break (IsBoundLine n) (bound_once n) [] (lines bytes) ys at k.0 h)
  bounds_read_once n bytes (Err at) (Ok ys) (inr h) k = absurd (too_few n bytes ys h.0 k h.1 h.2)
  bounds_read_once n bytes (Err at) (Err to) (inl h) (inl k) = ap Err (break_once (IsBoundLine n) (bound_once n) [] (lines bytes) at to h k)
  bounds_read_once n bytes (Err at) (Err to) (inl h) (inr k) = absurd (hold_or_break (IsBoundLine n) (bound_once n) [] (lines bytes) k.0 at k.1 h)
  bounds_read_once n bytes (Err at) (Err to) (inr h) (inl k) = absurd (hold_or_break (IsBoundLine n) (bound_once n) [] (lines bytes) h.0 to h.1 k)
  bounds_read_once n bytes (Err at) (Err to) (inr h) (inr k) = ap Err (h.3 ∙ sym k.3)

  pub states_read_once : StatesReadOnce
  states_read_once p bytes = behind_once (IsHeader p) (λ u. AreRead IsStateLine) (header_once p) (λ u. read_once IsStateLine state_once) (length bytes) (lines bytes)

  pub rows_read_once : RowsReadOnce
  rows_read_once ss bytes =
      behind_once IsCounts (λ c. AreReadAs (IsRowLine (length ss)) (rows_said ss c)) counts_once
      (λ c. as_once (IsRowLine (length ss)) (row_once (length ss)) (rows_said ss c)) (length bytes) (lines bytes)

  pub path_read_once : PathReadOnce
  path_read_once p bytes =
      behind_once (IsHeader p) (λ u. ReadsFirst (length bytes)) (header_once p)
      (λ u. behind_once IsStateText (λ s. AreReadAs IsStepLine (path_of s)) (λ text s t h k. state_text_once text text s t refl h k)
      (λ s. as_once IsStepLine step_once (path_of s)) (length bytes))
      (length bytes) (lines bytes)
