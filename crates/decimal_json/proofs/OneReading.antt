-- Whatever reads bytes answers the same of them, unless it is refused memory.
use Rattle.std.proofs.Common.{◌≡◌, ◌⊎◌, ℕ, ◌<◌, ◌≤◌, List, [], ◌∷◌, refl, sym, ap, ◌∙◌, arith, inl, inr}
use Rattle.std.specs.Prelude.{Result, Ok, Err}
use Rattle.std.proofs.Math.ListN.{get_or}
use Rattle.bridge_io.specs.declared.reason.Reason.{Reason}
use Rattle.bridge_io.specs.declared.reason.Reason.TheVariants.{TooLong, BadByte, BadNumber, Syntax, TooDeep, OtherKind, LeftOut, TwiceNamed, Unknown, Cycle, RenameMissing, RenameOfRenamed, WrongType, NotConstant, ForeignWrite, SyncGlobalWrite, WrittenTwice, Nothing, TooLarge, JsonSyntax, TwiceMember, MissingMember, UnknownMember, WrongShape, OtherFeature, UnboundedVariable, RealVariable, TransientRead, TransientInitial, TransientTwoAutomata, LabelOnEdge, BranchReward, TwoRewardWriters, SharedWrite, BadVector, NoDestination, RepeatedAutomaton, PropertyLeftOut, RowSyntax, TwoInits}
use Rattle.bridge_io.specs.declared.reason.Fault.{Fault}
use Rattle.bridge_io.specs.declared.reason.Refused.{Refused}
use Rattle.bridge_io.specs.declared.reason.Refused.TheVariants.{Memory, At}
use Rattle.bridge_io.specs.Reason.{number_of}
use Rattle.decimal_json.specs.declared.tree.Json.{Json}
use Rattle.decimal_json.specs.Faults.{IsLeast, Reads}
use Rattle.decimal_json.specs.Laws.{IsMemory}

-- the reasons by their numbers
abbrev reasons : List Reason
reasons = TooLong ∷ TooLong ∷ BadByte ∷ BadNumber ∷ Syntax ∷ TooDeep ∷ OtherKind ∷ LeftOut ∷ TwiceNamed ∷ Unknown ∷ Cycle ∷ RenameMissing ∷ RenameOfRenamed ∷ WrongType ∷ NotConstant ∷ ForeignWrite ∷ SyncGlobalWrite ∷ WrittenTwice ∷ Nothing ∷ TooLarge ∷ JsonSyntax ∷ TwiceMember ∷ MissingMember ∷ UnknownMember ∷ WrongShape ∷ OtherFeature ∷ UnboundedVariable ∷ RealVariable ∷ TransientRead ∷ TransientInitial ∷ TransientTwoAutomata ∷ LabelOnEdge ∷ BranchReward ∷ TwoRewardWriters ∷ SharedWrite ∷ BadVector ∷ TooLong ∷ TooLong ∷ NoDestination ∷ RepeatedAutomaton ∷ PropertyLeftOut ∷ RowSyntax ∷ TooLong ∷ TwoInits ∷ []

abbrev reason_of : ℕ → Reason
reason_of n = get_or reasons n TooLong

numbered : (r : Reason) → reason_of (number_of r) ≡ r
numbered TooLong = refl
numbered BadByte = refl
numbered BadNumber = refl
numbered Syntax = refl
numbered TooDeep = refl
numbered OtherKind = refl
numbered LeftOut = refl
numbered TwiceNamed = refl
numbered Unknown = refl
numbered Cycle = refl
numbered RenameMissing = refl
numbered RenameOfRenamed = refl
numbered WrongType = refl
numbered NotConstant = refl
numbered ForeignWrite = refl
numbered SyncGlobalWrite = refl
numbered WrittenTwice = refl
numbered Nothing = refl
numbered TooLarge = refl
numbered JsonSyntax = refl
numbered TwiceMember = refl
numbered MissingMember = refl
numbered UnknownMember = refl
numbered WrongShape = refl
numbered OtherFeature = refl
numbered UnboundedVariable = refl
numbered RealVariable = refl
numbered TransientRead = refl
numbered TransientInitial = refl
numbered TransientTwoAutomata = refl
numbered LabelOnEdge = refl
numbered BranchReward = refl
numbered TwoRewardWriters = refl
numbered SharedWrite = refl
numbered BadVector = refl
numbered NoDestination = refl
numbered RepeatedAutomaton = refl
numbered PropertyLeftOut = refl
numbered RowSyntax = refl
numbered TwoInits = refl

number_same : (r s : Reason) → number_of r ≡ number_of s → r ≡ s
number_same r s e = sym (numbered r) ∙ ap reason_of e ∙ numbered s

numbers_meet : (a b : ℕ) → a ≤ b → b ≤ a → a ≡ b
numbers_meet a b h k = omega (arith, h, k)

apart : (a b : ℕ) → a < b → (b < a) ⊎ (b ≡ a) → ⊥
apart a b h (inl k) = omega (arith, h, k)
apart a b h (inr k) = omega (arith, h, k)

fault_same : (f g : Fault) → f.at ≡ g.at → f.reason ≡ g.reason → f ≡ g
fault_same f g d e = ap (λ i. record { reason = f.reason; at = i }) d ∙ ap (λ r. record { reason = r; at = g.at }) e

least_same : (bytes : List ℕ) (f g : Fault) → IsLeast bytes f.at f.reason → IsLeast bytes g.at g.reason → f ≡ g
least_same bytes f g h k = meet (h.least g.at g.reason k.fault) (k.least f.at f.reason h.fault)
  where
    meet : (f.at < g.at) ⊎ ((f.at ≡ g.at) × (number_of f.reason ≤ number_of g.reason)) → (g.at < f.at) ⊎ ((g.at ≡ f.at) × (number_of g.reason ≤ number_of f.reason)) → f ≡ g
    meet (inl a) (inl b) = absurd (apart f.at g.at a (inl b))
    meet (inl a) (inr b) = absurd (apart f.at g.at a (inr b.0))
    meet (inr a) (inl b) = absurd (apart g.at f.at b (inr a.0))
    meet (inr a) (inr b) = fault_same f g a.0 (number_same f.reason g.reason (numbers_meet _ _ a.1 b.1))

pub one_reading : (bytes : List ℕ) (r s : Result Json Refused) → Reads bytes r → Reads bytes s → IsMemory r ⊎ IsMemory s ⊎ (r ≡ s)
one_reading bytes (Err (Memory e)) s h k = inl tt
one_reading bytes (Ok x) (Err (Memory e)) h k = inr (inl tt)
one_reading bytes (Err (At f)) (Err (Memory e)) h k = inr (inl tt)
one_reading bytes (Ok x) (Ok y) h k = inr (inr (ap (λ v. Ok v) (k.only x h.tokens h.spells)))
one_reading bytes (Ok x) (Err (At g)) h k = absurd (h.clean g.at g.reason k.fault)
one_reading bytes (Err (At f)) (Ok y) h k = absurd (k.clean f.at f.reason h.fault)
one_reading bytes (Err (At f)) (Err (At g)) h k = inr (inr (ap (λ v. Err (At v)) (least_same bytes f g h k)))
