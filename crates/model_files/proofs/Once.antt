-- Bytes are one tree without fault, or have one least fault, and not both.
use Rattle.std.specs.Prelude.{◌≡◌, ℕ, List, [], ◌∷◌, Some, slice_get}
use Rattle.std.proofs.Common.{refl, sym, ap, subst, ◌∙◌, arith, inl, inr}
use Rattle.std.proofs.lemmas.Option.{same_Some}
use Rattle.bridge_io.specs.Reason.{number_of}
use Rattle.bridge_io.specs.declared.reason.Fault.{Fault}
use Rattle.bridge_io.specs.declared.reason.Reason.{Reason}
use Rattle.bridge_io.specs.declared.reason.Reason.TheVariants.{TooLong, BadByte, BadNumber, Syntax, TooDeep, OtherKind, LeftOut, TwiceNamed, Unknown, Cycle, RenameMissing, RenameOfRenamed, WrongType, NotConstant, ForeignWrite, SyncGlobalWrite, WrittenTwice, Nothing, TooLarge, JsonSyntax, TwiceMember, MissingMember, UnknownMember, WrongShape, OtherFeature, UnboundedVariable, RealVariable, TransientRead, TransientInitial, TransientTwoAutomata, LabelOnEdge, BranchReward, TwoRewardWriters, SharedWrite, BadVector, NoDestination, RepeatedAutomaton, PropertyLeftOut, RowSyntax, TwoInits}
use Rattle.name_rules.specs.Least.{AtMost, IsLeast}
use Rattle.name_rules.proofs.Plain.{no_least}
use Rattle.prism_parse.specs.Laws.{OneSyntax}
use Rattle.prism_check.specs.Faults.{faults as prism_faults}
use Rattle.decimal_json.specs.declared.tree.Json.{Json}
use Rattle.decimal_json.specs.Faults.{IsWhole}
use Rattle.jani_table.specs.declared.table.Form.TheVariants as F
use Rattle.jani_table.specs.Node.{node}
use Rattle.jani_table.specs.Faults.{faults as shape_faults}
use Rattle.jani_tree.specs.Jani.{IsFile}
use Rattle.jani_check.specs.Faults.{faults as jani_faults}
use Rattle.model_files.specs.PrismFile.{of_text, of_tree}
use Rattle.model_files.specs.JaniFile.{of_json, of_shape, of_model}
use Rattle.model_files.specs.Once.{OnePrismTree, OnePrismFault, FaultyOrPrism, OneJaniTree, OneJaniFault, FaultyOrJani}

-- ---- the least of some faults
-- the reasons in the order of their numbers, from 0; in the place of a number that none has stands the next reason
abbrev reasons : List Reason
reasons =
    TooLong ∷ TooLong ∷ BadByte ∷ BadNumber ∷ Syntax ∷ TooDeep ∷ OtherKind ∷ LeftOut ∷ TwiceNamed ∷ Unknown ∷ Cycle ∷ RenameMissing ∷ RenameOfRenamed ∷ WrongType ∷ NotConstant ∷ ForeignWrite
    ∷ SyncGlobalWrite ∷ WrittenTwice ∷ Nothing ∷ TooLarge ∷ JsonSyntax ∷ TwiceMember ∷ MissingMember ∷ UnknownMember ∷ WrongShape ∷ OtherFeature ∷ UnboundedVariable ∷ RealVariable ∷ TransientRead
    ∷ TransientInitial ∷ TransientTwoAutomata ∷ LabelOnEdge ∷ BranchReward ∷ TwoRewardWriters ∷ SharedWrite ∷ BadVector ∷ NoDestination ∷ NoDestination ∷ NoDestination ∷ RepeatedAutomaton ∷ PropertyLeftOut
    ∷ RowSyntax ∷ TwoInits ∷ TwoInits ∷ []

numbered : (r : Reason) → slice_get reasons (number_of r) ≡ Some r
numbered TooLong = refl
numbered BadByte = refl
numbered BadNumber = refl
numbered Syntax = refl
numbered TooDeep = refl
numbered OtherKind = refl
numbered LeftOut = refl
numbered TwiceNamed = refl
numbered Unknown = refl
numbered Cycle = refl
numbered RenameMissing = refl
numbered RenameOfRenamed = refl
numbered WrongType = refl
numbered NotConstant = refl
numbered ForeignWrite = refl
numbered SyncGlobalWrite = refl
numbered WrittenTwice = refl
numbered Nothing = refl
numbered TooLarge = refl
numbered JsonSyntax = refl
numbered TwiceMember = refl
numbered MissingMember = refl
numbered UnknownMember = refl
numbered WrongShape = refl
numbered OtherFeature = refl
numbered UnboundedVariable = refl
numbered RealVariable = refl
numbered TransientRead = refl
numbered TransientInitial = refl
numbered TransientTwoAutomata = refl
numbered LabelOnEdge = refl
numbered BranchReward = refl
numbered TwoRewardWriters = refl
numbered SharedWrite = refl
numbered BadVector = refl
numbered NoDestination = refl
numbered RepeatedAutomaton = refl
numbered PropertyLeftOut = refl
numbered RowSyntax = refl
numbered TwoInits = refl

same_reason : (r q : Reason) → number_of r ≡ number_of q → r ≡ q
same_reason r q e = same_Some r q (sym (numbered r) ∙ ap (slice_get reasons) e ∙ numbered q)

pub same_parts : (f g : Fault) → f.at ≡ g.at → f.reason ≡ g.reason → f ≡ g
same_parts f g a r = ap (λ x. record { reason = f.reason; at = x }) a ∙ ap (λ x. record { reason = x; at = g.at }) r

same_fault : (f g : Fault) → AtMost f g → AtMost g f → f ≡ g
same_fault f g (inl a) (inl b) = absurd (omega (arith, a, b))
same_fault f g (inl a) (inr b) = absurd (let c = b.0 in omega (arith, a, c))
same_fault f g (inr a) (inl b) = absurd (let c = a.0 in omega (arith, b, c))
same_fault f g (inr a) (inr b) = same_parts f g a.0 (same_reason f.reason g.reason (let c = a.1 in let d = b.1 in omega (arith, c, d)))

pub one_least : (fs : List Fault) (f g : Fault) → IsLeast fs f → IsLeast fs g → f ≡ g
one_least fs f g h k = same_fault f g (h.least g k.among) (k.least f h.among)

-- ---- PRISM files
pub one_prism_tree : OnePrismTree
one_prism_tree bytes t u h k = k.read.only t h.read.spells

pub one_prism_fault : OneSyntax → OnePrismFault
one_prism_fault one bytes f g (of_text h) (of_text k) = let e = one bytes (f ∷ h.others) (g ∷ k.others) h.faults k.faults in cc
one_prism_fault one bytes f g (of_text h) (of_tree t s l) = absurd (h.faulty s.clean)
one_prism_fault one bytes f g (of_tree t s l) (of_text k) = absurd (k.faulty s.clean)
one_prism_fault one bytes f g (of_tree t s l) (of_tree u r m) = one_least (prism_faults t) f g l (subst (λ x. IsLeast (prism_faults x) g) (s.only u r.spells) m)

-- ---- JANI files
one_value : (bytes : List ℕ) (v w : Json) → IsWhole bytes v → IsWhole bytes w → w ≡ v
one_value bytes v w h k = h.only w k.tokens k.spells

pub one_jani_tree : OneJaniTree
one_jani_tree bytes t u h k = k.read.only t (subst (λ v. IsFile (node v) t) (one_value bytes k.value h.value k.read.whole h.read.whole) h.read.spells)

pub one_jani_fault : OneJaniFault
one_jani_fault bytes f g (of_json h) (of_json k) = same_fault f g (h.least g.at g.reason k.fault) (k.least f.at f.reason h.fault)
one_jani_fault bytes f g (of_json h) (of_shape w x m) = absurd (x.clean f.at f.reason h.fault)
one_jani_fault bytes f g (of_json h) (of_model w t r m) = absurd (r.whole.clean f.at f.reason h.fault)
one_jani_fault bytes f g (of_shape v y l) (of_json k) = absurd (y.clean g.at g.reason k.fault)
one_jani_fault bytes f g (of_shape v y l) (of_shape w x m) =
    one_least (shape_faults F.Model (node v)) f g l (subst (λ u. IsLeast (shape_faults F.Model (node u)) g) (one_value bytes v w y x) m)
one_jani_fault bytes f g (of_shape v y l) (of_model w t r m) =
    absurd (no_least (shape_faults F.Model (node v)) f (subst (λ u. shape_faults F.Model (node u) ≡ []) (one_value bytes v w y r.whole) r.shaped) l)
one_jani_fault bytes f g (of_model v t r l) (of_json k) = absurd (r.whole.clean g.at g.reason k.fault)
one_jani_fault bytes f g (of_model v t r l) (of_shape w x m) =
    absurd (no_least (shape_faults F.Model (node w)) g (subst (λ u. shape_faults F.Model (node u) ≡ []) (one_value bytes w v x r.whole) r.shaped) m)
one_jani_fault bytes f g (of_model v t r l) (of_model w u s m) =
    let trees : u ≡ t = r.only u (subst (λ x. IsFile (node x) u) (one_value bytes v w r.whole s.whole) s.spells) in
    one_least (jani_faults t) f g l (subst (λ x. IsLeast (jani_faults x) g) trees m)

-- ---- bytes that have a fault are no file without one
pub faulty_or_prism : FaultyOrPrism
faulty_or_prism bytes f other (of_text least) ok = least.faulty ok.read.clean
faulty_or_prism bytes f other (of_tree tree read least) ok = no_least _ f (subst (λ t. prism_faults t ≡ []) (read.only other ok.read.spells) ok.sound) least

pub faulty_or_jani : FaultyOrJani
faulty_or_jani bytes f tree (of_json least) ok = ok.read.whole.clean f.at f.reason least.fault
faulty_or_jani bytes f tree (of_shape value whole least) ok =
    no_least _ f (subst (λ v. shape_faults F.Model (node v) ≡ []) (one_value bytes value ok.value whole ok.read.whole) ok.read.shaped) least
faulty_or_jani bytes f tree (of_model value other read least) ok =
    let trees : tree ≡ other = read.only tree (subst (λ v. IsFile (node v) tree) (one_value bytes value ok.value read.whole ok.read.whole) ok.read.spells) in
    no_least _ f (subst (λ t. jani_faults t ≡ []) trees ok.sound) least
