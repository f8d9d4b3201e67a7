-- The faults of an instance, told by the kinds that each constant and each column has, with the names. That these are the
-- instance's named faults is a law. (This project's own rule.)
use Rattle.std.specs.Prelude.{◌≡◌, ℕ, ◌+◌, suc, List, [], ◌∷◌, ◌++◌, map, length, Bool, true, false, Option, Some, None, is_none, if◌then◌else◌, slice_get, unwrap_or}
use Rattle.std.specs.List.{flat_map}
use Rattle.std.specs.Option.{option_map}
use Rattle.std.proofs.Common.{refl, ap, ap₂, ◌∙◌, arith}
use Rattle.std.proofs.lemmas.List.{map-append}
use Rattle.op_trees.specs.Seen.{Seen}
use Rattle.op_trees.specs.declared.tree.Value.{Value}
use Rattle.basics.specs.Options.{if_some}
use Rattle.process_core.specs.Ready.{Name}
use Rattle.process_core.specs.Instance.{Domain, Truths, Between, Column, Range, Scene, range_from, is_empty, is_outside, fault_of, numbered, only_if, constant_faults, range_faults, domain_faults, value_faults, first_faults, column_faults, is_of_constant}
use Rattle.process_core.specs.declared.data.FaultKind.{FaultKind}
use Rattle.process_core.specs.declared.data.FaultKind.TheVariants.{ConstUndef, BoundUndef, EmptyRange, InitUndef, InitOutside}
use Rattle.process_core.specs.declared.data.InstanceFault.{InstanceFault}
use Rattle.instance_start.specs.Description.{Constant}
use Rattle.instance_start.specs.Started.{place_name, named_fault, named_faults}

-- ---- kinds
abbrev pub kind_if : Bool → FaultKind → Option FaultKind
kind_if b k = if b then Some k else None

abbrev pub constant_kind : Seen → Option FaultKind
constant_kind s = kind_if (is_none s.value) ConstUndef

abbrev pub range_kind : Option Range → Option FaultKind
range_kind None = Some BoundUndef
range_kind (Some r) = kind_if (is_empty r) EmptyRange

abbrev pub domain_kind : Domain → Option FaultKind
domain_kind Truths = None
domain_kind (Between l h) = range_kind (range_from l h)

abbrev pub value_kind : Domain → Option Value → Option FaultKind
value_kind d None = Some InitUndef
value_kind d (Some v) = kind_if (is_outside d v) InitOutside

abbrev pub first_kind : Bool → Domain → Option Seen → Option FaultKind
first_kind true d first = None
first_kind false d None = None
first_kind false d (Some s) = value_kind d s.value

-- ---- with names
abbrev pub fault_with : Name → FaultKind → InstanceFault
fault_with n k = record { kind = k; name = n }

abbrev pub named : Name → Option FaultKind → List InstanceFault
named n k = if_some (option_map (fault_with n) k)

abbrev pub column_named : Bool → Column → List InstanceFault
column_named has_condition c = named c.name (domain_kind c.domain) ++ named c.name (first_kind has_condition c.domain c.first)

abbrev pub constants_named : List Name → List Seen → List InstanceFault
constants_named [] ss = []
constants_named (n ∷ ns) [] = []
constants_named (n ∷ ns) (s ∷ ss) = named n (constant_kind s) ++ constants_named ns ss

-- ---- they are the named faults
module _ (constants columns : List Name) where
  if_named : (b : Bool) (k : FaultKind) (i : ℕ) (n : Name) → place_name constants columns (is_of_constant k) (fault_of k i) ≡ n →
      map (named_fault constants columns) (only_if b (fault_of k i)) ≡ named n (kind_if b k)
  if_named true k i n e = ap {B = List InstanceFault} (λ m. fault_with m k ∷ []) e
  if_named false k i n e = refl

  range_named : (i : ℕ) (o : Option Range) (n : Name) → unwrap_or (slice_get columns i) [] ≡ n →
      map (named_fault constants columns) (range_faults i o) ≡ named n (range_kind o)
  range_named i None n e = ap {B = List InstanceFault} (λ m. fault_with m BoundUndef ∷ []) e
  range_named i (Some r) n e = if_named (is_empty r) EmptyRange i n e

  domain_named : (i : ℕ) (d : Domain) (n : Name) → unwrap_or (slice_get columns i) [] ≡ n →
      map (named_fault constants columns) (domain_faults i d) ≡ named n (domain_kind d)
  domain_named i Truths n e = refl
  domain_named i (Between l h) n e = range_named i (range_from l h) n e

  value_named : (i : ℕ) (d : Domain) (o : Option Value) (n : Name) → unwrap_or (slice_get columns i) [] ≡ n →
      map (named_fault constants columns) (value_faults i d o) ≡ named n (value_kind d o)
  value_named i d None n e = ap {B = List InstanceFault} (λ m. fault_with m InitUndef ∷ []) e
  value_named i d (Some v) n e = if_named (is_outside d v) InitOutside i n e

  first_named : (r : Bool) (i : ℕ) (d : Domain) (o : Option Seen) (n : Name) → unwrap_or (slice_get columns i) [] ≡ n →
      map (named_fault constants columns) (first_faults r i d o) ≡ named n (first_kind r d o)
  first_named true i d o n e = refl
  first_named false i d None n e = refl
  first_named false i d (Some s) n e = value_named i d s.value n e

  each_column : (r : Bool) (i : ℕ) (cs : List Column) → ((j : ℕ) → unwrap_or (slice_get columns (i + j)) [] ≡ unwrap_or (slice_get (map (λ c. c.name) cs) j) []) →
      map (named_fault constants columns) (numbered (column_faults r) i cs) ≡ flat_map (column_named r) cs
  each_column r i [] at = refl
  each_column r i (c ∷ cs) at =
      let here : unwrap_or (slice_get columns i) [] ≡ c.name = ap (λ k. unwrap_or (slice_get columns k) []) (let e : i ≡ i + 0 = omega arith in e) ∙ at 0 in
      map-append (named_fault constants columns) (column_faults r i c) (numbered (column_faults r) (i + 1) cs)
      ∙ ap₂ (λ (l m : List InstanceFault). l ++ m)
      (map-append (named_fault constants columns) (domain_faults i c.domain) (first_faults r i c.domain c.first)
      ∙ ap₂ (λ (l m : List InstanceFault). l ++ m) (domain_named i c.domain c.name here) (first_named r i c.domain c.first c.name here))
      (each_column r (i + 1) cs (λ j. ap (λ k. unwrap_or (slice_get columns k) []) (let e : i + 1 + j ≡ i + suc j = omega arith in e) ∙ at (suc j)))

  each_constant : (i : ℕ) (ns : List Name) (ss : List Seen) → length ns ≡ length ss →
      ((j : ℕ) → unwrap_or (slice_get constants (i + j)) [] ≡ unwrap_or (slice_get ns j) []) →
      map (named_fault constants columns) (numbered constant_faults i ss) ≡ constants_named ns ss
  each_constant i [] [] l at = refl
  each_constant i [] (s ∷ ss) l at = absurd (omega (arith, l))
  each_constant i (n ∷ ns) [] l at = absurd (omega (arith, l))
  each_constant i (n ∷ ns) (s ∷ ss) l at =
      let here : unwrap_or (slice_get constants i) [] ≡ n = ap (λ k. unwrap_or (slice_get constants k) []) (let e : i ≡ i + 0 = omega arith in e) ∙ at 0 in
      map-append (named_fault constants columns) (constant_faults i s) (numbered constant_faults (i + 1) ss)
      ∙ ap₂ (λ (l m : List InstanceFault). l ++ m) (if_named (is_none s.value) ConstUndef i n here)
      (each_constant (i + 1) ns ss (let e : length ns ≡ length ss = omega (arith, l) in e)
      (λ j. ap (λ k. unwrap_or (slice_get constants k) []) (let e : i + 1 + j ≡ i + suc j = omega arith in e) ∙ at (suc j)))

pub named_are : (constants : List Constant) (k : Scene) → length (map (λ c. c.name) constants) ≡ length k.constants →
    named_faults constants k ≡ constants_named (map (λ c. c.name) constants) k.constants ++ flat_map (column_named k.has_condition) k.columns
named_are constants k l =
    let ns = map (λ (c : Constant). c.name) constants in
    let cs = map (λ (c : Column). c.name) k.columns in
    map-append (named_fault ns cs) (numbered constant_faults 0 k.constants) (numbered (column_faults k.has_condition) 0 k.columns)
    ∙ ap₂ (λ (l m : List InstanceFault). l ++ m)
    (each_constant ns cs 0 ns k.constants l (λ j. ap (λ i. unwrap_or (slice_get ns i) []) (let e : 0 + j ≡ j = omega arith in e)))
    (each_column ns cs k.has_condition 0 k.columns (λ j. ap (λ i. unwrap_or (slice_get cs i) []) (let e : 0 + j ≡ j = omega arith in e)))
