-- Writes, commands and groups made of what the code computes, trimmed as what is seen of them is.
use Rattle.std.proofs.Common.{◌≡◌, ℕ, List, [], Bool, true, false, not, ◌&&◌, Option, Some, None, Result, if◌then◌else◌, refl, ap, ap₂, ◌∙◌}
use Rattle.op_trees.specs.Seen.{Seen}
use Rattle.op_trees.specs.declared.tree.Value.{Value}
use Rattle.op_trees.specs.declared.tree.EvalFail.{EvalFail}
use Rattle.process_core.specs.Ready.{Name, Write, Reward, Update, Ready, Sum}
use Rattle.process_core.specs.Choices.{is_false}
use Rattle.process_core.specs.Instance.{Column, domain_at, fits_in, write_to}
use Rattle.state_choices.specs.Groups.{Group}
use Rattle.state_choices.specs.Views.{seen_of}
use Rattle.state_choices.specs.Trimmed.{computed, trimmed_seen, trimmed_write}
use Rattle.state_choices.proofs.ComputedLaws.{computed_laws}

fits_computed : (cs : List Column) (i : ℕ) (s : Seen) → fits_in (domain_at cs i) (seen_of (computed s)).value ≡ (not s.wide && fits_in (domain_at cs i) s.value)
fits_computed cs i s = by_parts s.wide s.value
  where
    by_parts : (w : Bool) (v : Option Value) → fits_in (domain_at cs i) (seen_of (computed (record { value = v; wide = w }))).value ≡ (not w && fits_in (domain_at cs i) v)
    by_parts true v = refl
    by_parts false None = refl
    by_parts false (Some v) = refl

same_write : (i j : ℕ) (s t : Seen) (a b : Bool) → i ≡ j → s ≡ t → a ≡ b →
    ◌≡◌ {A = Write} (record { column = i; value = s; fits = a }) (record { column = j; value = t; fits = b })
same_write i j s t a b e f g = cc

pub write_computed : (cs : List Column) (i j : ℕ) (s : Seen) (r : Result Value EvalFail) (b : Bool) → i ≡ j → r ≡ computed s →
    b ≡ fits_in (domain_at cs i) (seen_of r).value →
    ◌≡◌ {A = Write} (record { column = i; value = seen_of r; fits = b }) (trimmed_write (write_to cs j s))
write_computed cs i j s r b e f g =
    same_write i j (seen_of r) (trimmed_seen s) b (not s.wide && fits_in (domain_at cs j) s.value) e (ap seen_of f ∙ computed_laws.values s)
    (g ∙ ap₂ (λ k x. fits_in (domain_at cs k) (seen_of x).value) e f ∙ fits_computed cs j s)

pub same_update : (s t : Seen) (m n : List Write) (r q : List Reward) → s ≡ t → m ≡ n → r ≡ q →
    ◌≡◌ {A = Update} (record { weight = s; writes = m; rewards = r }) (record { weight = t; writes = n; rewards = q })
same_update s t m n r q e f g = cc

same_command : (g h : Seen) (us ws : List Update) → g ≡ h → us ≡ ws →
    ◌≡◌ {A = Ready} (record { action = None; guard = g; updates = us }) (record { action = None; guard = h; updates = ws })
same_command g h us ws e f = cc

-- a command whose guard is false has no update, any other all its updates
pub command_computed : (s : Seen) (g : Result Value EvalFail) (us all : List Update) → g ≡ computed s → us ≡ (if is_false (seen_of g).value then [] else all) →
    ◌≡◌ {A = Ready} (record { action = None; guard = seen_of g; updates = us }) (record { action = None; guard = trimmed_seen s; updates = if not s.wide && is_false s.value then [] else all })
command_computed s g us all e f =
    same_command (seen_of g) (trimmed_seen s) us _ (ap seen_of e ∙ computed_laws.values s)
    (f ∙ ap (λ b. if b then [] else all) (ap (λ x. is_false (seen_of x).value) e ∙ computed_laws.guards s))

pub same_group : (l : Option Name) (r s : List Sum) (m n : List (List Ready)) → r ≡ s → m ≡ n →
    ◌≡◌ {A = Group} (record { label = l; rewards = r; lists = m }) (record { label = l; rewards = s; lists = n })
same_group l r s m n e f = cc
