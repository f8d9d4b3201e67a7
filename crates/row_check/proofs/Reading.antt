-- A reader goes on to the next line.
use Rattle.std.proofs.Common.{length, ◌≡◌, ℕ, List, [], ◌∷◌, ◌++◌, Result, Ok, Err, refl, sym, ap, ◌∙◌, subst, inl, inr, append_assoc}
use Rattle.bridge_io.specs.declared.reason.Refused.{Refused}
use Rattle.bridge_io.specs.declared.reason.Refused.TheVariants as R
use Rattle.row_check.specs.Lines.{Line, lines, lines_at, Hold, BreakAt, AreRead, AreReadAs, AreReadBehind}
use Rattle.process_core.specs.Steps.{Process}
use Rattle.process_core.specs.declared.data.State.{State}
use Rattle.row_check.specs.declared.data.Counts.{Counts}
use Rattle.row_check.specs.declared.data.ReadRows.{ReadRows}
use Rattle.row_check.specs.Forms.{IsHeader, IsRowLine, IsCounts, IsBehindHeader, AreCountsFirst, Reads, ReadsRowsOf, rows_said}

module _ {C : Type 0} (Next : List C → List ℕ → C → Type 0) (items : List C) (whole here ls : List Line) (l : Line) (e : here ≡ l ∷ ls) where
  pub line_holds : (c : C) (new : List C) → new ≡ items ++ c ∷ [] → Next items l.text c → ((cs : List C) → Hold Next items here cs → Hold Next [] whole (items ++ cs)) → (cs : List C) → Hold Next new ls cs → Hold Next [] whole (new ++ cs)
  line_holds c new f n k cs h =
      subst (Hold Next [] whole) (sym (ap (λ x. x ++ cs) f ∙ append_assoc items (c ∷ []) cs))
      (k (c ∷ cs) (subst (λ x. Hold Next items x (c ∷ cs)) (sym e) (n, subst (λ x. Hold Next x ls cs) f h)))

  pub line_later : (c : C) (new : List C) → new ≡ items ++ c ∷ [] → Next items l.text c → ((o : ℕ) → BreakAt Next items here o → BreakAt Next [] whole o) → (o : ℕ) → BreakAt Next new ls o → BreakAt Next [] whole o
  line_later c new f n k o h = k o (subst (λ x. BreakAt Next items x o) (sym e) (inl (c, n, subst (λ x. BreakAt Next x ls o) f h)))

  pub line_breaks : ((c : C) → ¬ Next items l.text c) → ((o : ℕ) → BreakAt Next items here o → BreakAt Next [] whole o) → BreakAt Next [] whole l.at
  line_breaks n k = k l.at (subst (λ x. BreakAt Next items x l.at) (sym e) (inr (n, refl)))

-- ---- a first line, and the rest
module _ {X Y : Type 0} (Is : List ℕ → X → Type 0) (Rest : X → List Line → Result Y ℕ → Type 0) (end : ℕ) where
  -- there is none
  pub missing : (here : List Line) (at : ℕ) → at ≡ end → here ≡ [] → AreReadBehind Is Rest end here (Err at)
  missing here at f e = subst (λ k. AreReadBehind Is Rest end k (Err at)) (sym e) f

  module _ (here ls : List Line) (l : Line) (e : here ≡ l ∷ ls) where
    -- it is none of the form
    pub first_breaks : ((x : X) → ¬ Is l.text x) → AreReadBehind Is Rest end here (Err l.at)
    first_breaks h = subst (λ k. AreReadBehind Is Rest end k (Err l.at)) (sym e) (inl (h, refl))

    -- it is of the form, and the rest is read
    pub behind_first : (x : X) → Is l.text x → (r : Result Y Refused) → Reads (Rest x ls) r → Reads (AreReadBehind Is Rest end here) r
    behind_first x h (Ok y) k = subst (λ q. AreReadBehind Is Rest end q (Ok y)) (sym e) (x, h, k)
    behind_first x h (Err (R.At f)) k = (k.0, subst (λ q. AreReadBehind Is Rest end q (Err f.at)) (sym e) (inr (x, h, k.1)))
    behind_first x h (Err (R.Memory m)) k = tt

-- ---- a header
no_rest : {X Y : Type 0} (Z : Type 0) (Is : List ℕ → X → Type 0) (Rest : X → List Line → Result Y ℕ → Type 0) (end : ℕ) (ls : List Line) (at : ℕ) → AreReadBehind {R = Z} Is (λ x ls r. ⊥) end ls (Err at) → AreReadBehind Is Rest end ls (Err at)
no_rest Z Is Rest end [] at h = h
no_rest Z Is Rest end (l ∷ ls) at (inl h) = inl h
no_rest Z Is Rest end (l ∷ ls) at (inr h) = absurd h.2

module _ {Y : Type 0} (p : Process) (bytes : List ℕ) (Rest : Unit {0} → List Line → Result Y ℕ → Type 0) where
  pub no_header : (f : Refused) → IsBehindHeader p bytes (Err f) → Reads (AreReadBehind (IsHeader p) Rest (length bytes) (lines bytes)) (Err f)
  no_header (R.At f) h = (h.0, no_rest ℕ (IsHeader p) Rest (length bytes) (lines bytes) f.at h.1)
  no_header (R.Memory e) h = tt

  pub behind_header : (next : ℕ) → IsBehindHeader p bytes (Ok next) → (r : Result Y Refused) → Reads (Rest tt (lines_at bytes next)) r → Reads (AreReadBehind (IsHeader p) Rest (length bytes) (lines bytes)) r
  behind_header next h r k = behind_first (IsHeader p) Rest (length bytes) (lines bytes) (lines_at bytes next) h.1.0 h.1.1 tt h.1.2 r k

-- ---- counts
module _ (ss : List State) (bytes : List ℕ) where
  abbrev behind : Counts → List Line → Result ReadRows ℕ → Type 0
  behind c = AreReadAs (IsRowLine (length ss)) (rows_said ss c)

  pub no_counts : (f : Refused) → AreCountsFirst bytes (Err f) → Reads (ReadsRowsOf ss bytes) (Err f)
  no_counts (R.At f) h = (h.0, no_rest ℕ IsCounts behind (length bytes) (lines bytes) f.at h.1)
  no_counts (R.Memory e) h = tt

  pub behind_counts : (c : Counts) (next : ℕ) → AreCountsFirst bytes (Ok (c, next)) → (r : Result ReadRows Refused) → Reads (behind c (lines_at bytes next)) r → Reads (ReadsRowsOf ss bytes) r
  behind_counts c next h r k = behind_first IsCounts behind (length bytes) (lines bytes) (lines_at bytes next) h.1.0 h.1.1 c h.1.2 r k

-- a list of items that are read, and what is made of it
module _ {C : Type 0} (Next : List C → List ℕ → C → Type 0) (ls : List Line) where
  pub made : {Y : Type 0} (make : List C → Y) (cs : List C) (y : Y) → AreRead Next ls (Ok cs) → y ≡ make cs → Reads (AreReadAs Next make ls) (Ok y)
  made make cs y h e = (cs, h, e)
