-- A line of a path at its last space.
use Rattle.std.proofs.Common.{map, ap, Ok, Err, ◌≡◌, ℕ, List, [], ◌∷◌, ◌++◌, false, nat_eq, Option, Some, None, sym, ◌∙◌, subst}
use Rattle.std.specs.List.{list_any}
use Rattle.process_core.specs.Ready.{Name}
use Rattle.bridge_io.specs.declared.reason.Refused.{Refused}
use Rattle.bridge_io.specs.declared.reason.Refused.TheVariants as R
use Rattle.row_check.specs.declared.data.ReadPath.{ReadPath}
use Rattle.row_check.specs.Lines.{Line, AreRead, AreReadAs}
use Rattle.process_core.specs.declared.data.State.{State}
use Rattle.row_check.specs.declared.data.PathStep.{PathStep}
use Rattle.row_check.specs.Texts.{IsNameText, IsStateText}
use Rattle.row_check.specs.Forms.{IsStepLine, IsStepLabel, AddsSteps, Reads, ReadsItems, path_of}
use Rattle.row_check.proofs.Parts.{last_same}

pub no_step_label : (text : List ℕ) → (text ≡ 45 ∷ [] → ⊥) → ((x : Name) → ¬ IsNameText text x) → (o : Option Name) → ¬ IsStepLabel text o
no_step_label text n h None k = n k
no_step_label text n h (Some x) k = h x k.1

module _ (before : List PathStep) (line label state : List ℕ) (e : line ≡ label ++ 32 ∷ state) (l : list_any (nat_eq 32) state ≡ false) where
  pub no_label : ((o : Option Name) → ¬ IsStepLabel label o) → (s : PathStep) → ¬ IsStepLine before line s
  no_label n s h = n s.label (subst (λ t. IsStepLabel t s.label) (last_same 32 h.label label h.state state h.last l (sym h.parts ∙ e)).0 h.label_is)

  pub no_state : ((t : State) → ¬ IsStateText state t) → (s : PathStep) → ¬ IsStepLine before line s
  no_state n s h = n s.state (subst (λ t. IsStateText t s.state) (last_same 32 h.label label h.state state h.last l (sym h.parts ∙ e)).1 h.state_is)

-- ---- steps added to a path
pub no_steps : (ls : List Line) (old new : ReadPath) (f : Refused) → ReadsItems (AreRead IsStepLine ls) (Err f) → AddsSteps ls old new (Err f)
no_steps ls old new (R.At f) h = h
no_steps ls old new (R.Memory e) h = tt

pub steps_failed : (ls : List Line) (old new : ReadPath) (s : State) (f : Refused) → AddsSteps ls old new (Err f) → Reads (AreReadAs IsStepLine (path_of s) ls) (Err f)
steps_failed ls old new s (R.At f) h = h
steps_failed ls old new s (R.Memory e) h = tt

pub steps_added : (ls : List Line) (old new : ReadPath) (s : State) → old ≡ path_of s [] → AddsSteps ls old new (Ok tt) → Reads (AreReadAs IsStepLine (path_of s) ls) (Ok new)
steps_added ls old new s e h = (h.0, h.1, same_path _ _ _ _ (h.2 ∙ ap (λ (p : ReadPath). p.states ++ map (λ t. t.state) h.0) e) (h.3 ∙ ap (λ (p : ReadPath). p.labels ++ map (λ t. t.label) h.0) e))
  where
    same_path : (a b : List State) (c d : List (Option Name)) → a ≡ b → c ≡ d → ◌≡◌ {A = ReadPath} (record { states = a; labels = c }) (record { states = b; labels = d })
    same_path a b c d p q = cc
