-- Lines of states and of rows, part by part.
use Rattle.std.proofs.Common.{Bool, true, ◌↔◌, IsTrue, MatchOption, if◌then◌else◌, ◌≡◌, ◌⊎◌, ℕ, List, [], ◌∷◌, ◌++◌, false, nat_eq, Option, Some, None, Result, Ok, Err, IfOk, length, slice_index, refl, sym, ap, ◌∙◌, subst, inl, inr, append-nil}
use Rattle.std.specs.List.{list_any}
use Rattle.std.specs.declared.alloc.AllocError.{AllocError}
use Rattle.frac_core.specs.Fraction.{Fraction}
use Rattle.process_core.specs.Ready.{Name}
use Rattle.process_core.specs.declared.data.State.{State}
use Rattle.process_texts.specs.Laws.{OneValueText, OneStateText, OneNameText}
use Rattle.row_check.specs.declared.data.Counts.{Counts}
use Rattle.row_check.specs.declared.data.Row.{Row}
use Rattle.row_check.specs.Lines.{ReadsText}
use Rattle.row_check.specs.Texts.{IsNumber, IsNumberBefore, IsStateText, IsNameText, IsProbability}
use Rattle.row_check.specs.Forms.{IsStateLine, IsLabelPart, IsNumbered, IsRowText, IsRowLine, IsCounts, MayCome}
use Rattle.row_check.proofs.Parts.{front_same, lacks_mark, number_apart, number_no_colon, before_once}
use Rattle.row_check.proofs.OneForm.{row_text_once}

-- ---- three numbers
module _ (line : List ℕ) where
  first : (a b c : ℕ) (rest : List ℕ) (h : IsNumbered line a b c rest) → IsNumberBefore line a (h.choice_text ++ 32 ∷ (h.target_text ++ 32 ∷ rest))
  first a b c rest h = record { number = h.source_text; parts = h.parts; is = h.source_is }

  second : (a b c : ℕ) (rest : List ℕ) (h : IsNumbered line a b c rest) → IsNumberBefore (h.choice_text ++ 32 ∷ (h.target_text ++ 32 ∷ rest)) b (h.target_text ++ 32 ∷ rest)
  second a b c rest h = record { number = h.choice_text; parts = refl; is = h.choice_is }

  third : (a b c : ℕ) (rest : List ℕ) (h : IsNumbered line a b c rest) → IsNumberBefore (h.target_text ++ 32 ∷ rest) c rest
  third a b c rest h = record { number = h.target_text; parts = refl; is = h.target_is }

  pub no_first : ((n : ℕ) (rest : List ℕ) → ¬ IsNumberBefore line n rest) → (a b c : ℕ) (rest : List ℕ) → ¬ IsNumbered line a b c rest
  no_first n a b c rest h = n a _ (first a b c rest h)

  module _ (x : ℕ) (after : List ℕ) (k : IsNumberBefore line x after) where
    pub no_second : ((n : ℕ) (rest : List ℕ) → ¬ IsNumberBefore after n rest) → (a b c : ℕ) (rest : List ℕ) → ¬ IsNumbered line a b c rest
    no_second n a b c rest h =
        let e = (before_once line a x _ after (first a b c rest h) k).1 in
        n b _ (subst (λ t. IsNumberBefore t b (h.target_text ++ 32 ∷ rest)) e (second a b c rest h))

    module _ (y : ℕ) (next : List ℕ) (l : IsNumberBefore after y next) where
      then_next : (a b c : ℕ) (rest : List ℕ) (h : IsNumbered line a b c rest) → h.target_text ++ 32 ∷ rest ≡ next
      then_next a b c rest h =
          let e = (before_once line a x _ after (first a b c rest h) k).1 in
          (before_once after b y _ next (subst (λ t. IsNumberBefore t b (h.target_text ++ 32 ∷ rest)) e (second a b c rest h)) l).1

      pub no_third : ((n : ℕ) (rest : List ℕ) → ¬ IsNumberBefore next n rest) → (a b c : ℕ) (rest : List ℕ) → ¬ IsNumbered line a b c rest
      no_third n a b c rest h = n c rest (subst (λ t. IsNumberBefore t c rest) (then_next a b c rest h) (third a b c rest h))

      pub numbered : (z : ℕ) (rest : List ℕ) → IsNumberBefore next z rest → IsNumbered line x y z rest
      numbered z rest m = record {
        source_text = k.number;
        choice_text = l.number;
        target_text = m.number;
        parts = k.parts ∙ ap (λ t. k.number ++ 32 ∷ t) (l.parts ∙ ap (λ t. l.number ++ 32 ∷ t) m.parts);
        source_is = k.is;
        choice_is = l.is;
        target_is = m.is;
      }

-- ---- counts
module _ (line : List ℕ) where
  first_count : (c : Counts) (h : IsCounts line c) → IsNumberBefore line c.states (h.choices ++ 32 ∷ h.transitions)
  first_count c h = record { number = h.states; parts = h.parts; is = h.states_are }

  second_count : (c : Counts) (h : IsCounts line c) → IsNumberBefore (h.choices ++ 32 ∷ h.transitions) c.choices h.transitions
  second_count c h = record { number = h.choices; parts = refl; is = h.choices_are }

  pub no_states : ((n : ℕ) (rest : List ℕ) → ¬ IsNumberBefore line n rest) → (c : Counts) → ¬ IsCounts line c
  no_states n c h = n c.states _ (first_count c h)

  module _ (x : ℕ) (after : List ℕ) (k : IsNumberBefore line x after) where
    pub no_choices : ((n : ℕ) (rest : List ℕ) → ¬ IsNumberBefore after n rest) → (c : Counts) → ¬ IsCounts line c
    no_choices n c h =
        let e = (before_once line c.states x _ after (first_count c h) k).1 in
        n c.choices _ (subst (λ t. IsNumberBefore t c.choices h.transitions) e (second_count c h))

    module _ (y : ℕ) (next : List ℕ) (l : IsNumberBefore after y next) where
      pub no_transitions : ((n : ℕ) → ¬ IsNumber next n) → (c : Counts) → ¬ IsCounts line c
      no_transitions n c h =
          let e = (before_once line c.states x _ after (first_count c h) k).1 in
          let f = (before_once after c.choices y _ next (subst (λ t. IsNumberBefore t c.choices h.transitions) e (second_count c h)) l).1 in
          n c.transitions (subst (λ t. IsNumber t c.transitions) f h.transitions_are)

      pub counts_are : (z : ℕ) → IsNumber next z → IsCounts line (record { states = x; choices = y; transitions = z })
      counts_are z m = record {
        states = k.number;
        choices = l.number;
        transitions = next;
        parts = k.parts ∙ ap (λ t. k.number ++ 32 ∷ t) l.parts;
        states_are = k.is;
        choices_are = l.is;
        transitions_are = m;
      }

-- ---- a probability, and maybe a label
abbrev Spaced : List ℕ → Type 0
Spaced text = (text ≡ []) ⊎ (slice_index text 0 ≡ 32)

abbrev Behind : List ℕ → Type 0
Behind text = (text ≡ []) ⊎ ((rest : List ℕ) × (text ≡ 32 ∷ rest))

behind : (text : List ℕ) → Spaced text → Behind text
behind [] h = inl refl
behind (b ∷ text) (inl h) = absurd cc
behind (b ∷ text) (inr h) = inr (text, ap (λ x. x ∷ text) h)

part_behind : (text : List ℕ) (o : Option Name) → IsLabelPart text o → Behind text
part_behind text None h = inl h
part_behind text (Some x) h = inr (h.0, h.1)

behind_same : (a b c d : List ℕ) → list_any (nat_eq 32) a ≡ false → list_any (nat_eq 32) b ≡ false → Behind c → Behind d → a ++ c ≡ b ++ d → (a ≡ b) × (c ≡ d)
behind_same a b c d h k (inl p) (inl q) e = (sym (append-nil a) ∙ ap (λ z. a ++ z) (sym p) ∙ e ∙ ap (λ z. b ++ z) q ∙ append-nil b, p ∙ sym q)
behind_same a b c d h k (inl p) (inr q) e = absurd (lacks_mark 32 a b q.0 h (sym (append-nil a) ∙ ap (λ z. a ++ z) (sym p) ∙ e ∙ ap (λ z. b ++ z) q.1))
behind_same a b c d h k (inr p) (inl q) e = absurd (lacks_mark 32 b a p.0 k (sym (append-nil b) ∙ ap (λ z. b ++ z) (sym q) ∙ sym e ∙ ap (λ z. a ++ z) p.1))
behind_same a b c d h k (inr p) (inr q) e =
    let f = front_same 32 a b p.0 q.0 h k (ap (λ z. a ++ z) (sym p.1) ∙ e ∙ ap (λ z. b ++ z) q.1) in
    (f.0, p.1 ∙ ap (λ z. 32 ∷ z) f.1 ∙ sym q.1)

pub no_part : (text rest : List ℕ) → text ≡ 32 ∷ rest → ((x : Name) → ¬ IsNameText rest x) → (o : Option Name) → ¬ IsLabelPart text o
no_part text rest e n None h = absurd (let f = sym e ∙ h in cc)
no_part text rest e n (Some x) h = n x (let f = sym h.1 ∙ e in let g : h.0 ≡ rest = cc in subst (λ t. IsNameText t x) g h.2)

-- ---- rows
pub no_numbers : (line : List ℕ) → ((a b c : ℕ) (rest : List ℕ) → ¬ IsNumbered line a b c rest) → (r : Row) → ¬ IsRowText line r
no_numbers line n r h = n r.source r.choice r.target _ h.numbers

module _ (line : List ℕ) (a b c : ℕ) (rest weight label : List ℕ) (k : IsNumbered line a b c rest) (e : rest ≡ weight ++ label) (apart : list_any (nat_eq 32) weight ≡ false) (s : Spaced label) where
  parts_same : (r : Row) (h : IsRowText line r) → (h.weight ≡ weight) × (h.label ≡ label)
  parts_same r h =
      let f = rest_same line r.source r.choice r.target a b c (h.weight ++ h.label) rest h.numbers k in
      behind_same h.weight weight h.label label h.weight_apart apart (part_behind h.label r.label h.label_is) (behind label s) (f ∙ e)
    where
      rest_same : (line : List ℕ) (a b c d e f : ℕ) (x y : List ℕ) → IsNumbered line a b c x → IsNumbered line d e f y → x ≡ y
      rest_same line a b c d e f x y h k =
          let i = front_same 32 h.source_text k.source_text _ _ (number_apart h.source_text a h.source_is) (number_apart k.source_text d k.source_is) (sym h.parts ∙ k.parts) in
          let j = front_same 32 h.choice_text k.choice_text _ _ (number_apart h.choice_text b h.choice_is) (number_apart k.choice_text e k.choice_is) i.1 in
          (front_same 32 h.target_text k.target_text x y (number_apart h.target_text c h.target_is) (number_apart k.target_text f k.target_is) j.1).1

  pub no_weight : ((x : Fraction) → ¬ IsProbability weight x) → (r : Row) → ¬ IsRowText line r
  no_weight n r h = n r.weight (subst (λ t. IsProbability t r.weight) (parts_same r h).0 h.weight_is)

  pub no_row_label : ((o : Option Name) → ¬ IsLabelPart label o) → (r : Row) → ¬ IsRowText line r
  no_row_label n r h = n r.label (subst (λ t. IsLabelPart t r.label) (parts_same r h).1 h.label_is)

module _ (values : OneValueText) (states : OneStateText) (names : OneNameText) where
  -- a row that may not come
  pub may_not_come : (n : ℕ) (before : List Row) (line : List ℕ) (r : Row) → IsRowText line r → ¬ MayCome n before r → (q : Row) → ¬ IsRowLine n before line q
  may_not_come n before line r h m q k = m (subst (MayCome n before) (row_text_once values states names line q r k.row h) k.may_come)

  pub row_kept : (n : ℕ) (before : List Row) (line : List ℕ) (r : Row) → IsRowText line r → (q : Result (Option Row) AllocError) →
      IfOk q (λ o. MatchOption o (¬ MayCome n before r) (λ p. (p ≡ r) × MayCome n before r)) → IfOk q (ReadsText (IsRowLine n before line))
  row_kept n before line r h (Ok None) k = may_not_come n before line r h k
  row_kept n before line r h (Ok (Some p)) k = record { row = subst (IsRowText line) (sym k.0) h; may_come = subst (MayCome n before) (sym k.0) k.1 }
  row_kept n before line r h (Err e) k = tt

-- a row where it may come
pub row_if_told : (P : Type 0) (r : Row) (b : Bool) (o : Option Row) → IsTrue b ↔ P → o ≡ (if b then Some r else None) → MatchOption o (¬ P) (λ q. (q ≡ r) × P)
row_if_told P r true o t e = subst (λ x. MatchOption x (¬ P) (λ q. (q ≡ r) × P)) (sym e) (refl, t.0 refl)
row_if_told P r false o t e = subst (λ x. MatchOption x (¬ P) (λ q. (q ≡ r) × P)) (sym e) (λ h. let f = t.1 h in absurd cc)

pub row_if_keeps : (K : Row → Type 0) (r : Row) (b : Bool) (o : Option Row) → (IsTrue b → K r) → o ≡ (if b then Some r else None) → (it : Row) → o ≡ Some it → K it
row_if_keeps K r true o k e it f = let g : r ≡ it = cc in subst K g (k refl)
row_if_keeps K r false o k e it f = absurd (let g : None ≡ Some it = sym e ∙ f in cc)

-- ---- states

module _ (before : List State) (line number state : List ℕ) (e : line ≡ number ++ 58 ∷ state) (l : list_any (nat_eq 58) number ≡ false) where
  state_parts : (s : State) (h : IsStateLine before line s) → (h.number ≡ number) × (h.state ≡ state)
  state_parts s h = front_same 58 h.number number h.state state (number_no_colon h.number (length before) h.counts) l (sym h.parts ∙ e)

  pub other_number : ¬ IsNumber number (length before) → (s : State) → ¬ IsStateLine before line s
  other_number n s h = n (subst (λ t. IsNumber t (length before)) (state_parts s h).0 h.counts)

  pub state_line : IsNumber number (length before) → (o : Option State) → ReadsText (IsStateText state) o → ReadsText (IsStateLine before line) o
  state_line i (Some s) h = record { number = number; state = state; parts = e; counts = i; state_is = h }
  state_line i None h = λ s k. h s (subst (λ t. IsStateText t s) (state_parts s k).1 k.state_is)

  pub state_line_read : IsNumber number (length before) → (r : Result (Option State) AllocError) → IfOk r (ReadsText (IsStateText state)) → IfOk r (ReadsText (IsStateLine before line))
  state_line_read i (Ok o) h = state_line i o h
  state_line_read i (Err x) h = tt
