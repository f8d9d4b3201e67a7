-- The limits of a file that is written out, counted on the file as it stands.
use Rattle.std.specs.Prelude.{ℕ, ◌<◌, ◌≤◌, ◌+◌, ◌*◌, ◌^◌, ◌-◌, List, [], ◌∷◌, length, Bool, true, false, ◌||◌, Option, Some, None, nat_lt, bytes_eq, if◌then◌else◌}
use Rattle.std.specs.List.{flat_map, list_any, sum_by}
use Rattle.std.specs.Option.{option_map}
use Rattle.std.proofs.Common.{◌≡◌, refl, sym, ap, ap₂, ◌∙◌, arith}
use Rattle.std.proofs.Math.Path.{fun_ext}
use Rattle.std.proofs.lemmas.Bool.{lt-ltb, le-ltb, or_left, or_right, or_from}
use Rattle.std.proofs.lemmas.List.{length-map}
use Rattle.std.proofs.lemmas.List.Folds.{flat_map-map}
use Rattle.basics.specs.Members.{any-map}
use Rattle.bridge_io.specs.declared.reason.Named.{Named}
use Rattle.bridge_io.specs.declared.reason.Reason.TheVariants.{TooLarge as Oversized}
use Rattle.op_trees.specs.Tree.{capped}
use Rattle.process_core.specs.Often.{sum_by-map}
use Rattle.basics.specs.Options.{if_some}
use Rattle.process_core.specs.Ready.{Name, firsts}
use Rattle.prism_tree.specs.Syntax.{Command, Rewards, File}
use Rattle.prism_flat.specs.Names.{Part, parts}
use Rattle.prism_flat.specs.Flat.{flat, flat_name, flat_command, flat_rewards, flat_item, flat_module}
use Rattle.prism_flat.specs.Laws.{flat_part, parts-flat}
use Rattle.prism_check.specs.SizeFaults.{command_count, part_actions, action_count, height_limit, passes_limit, counted_nodes, counted_height, has_long_rewards, has_many_vectors, size_faults, LimitsCounted}
use Rattle.prism_check.specs.declared.sizes.Sizes.TheVariants.{TooLarge, Within}
use Rattle.name_rules.specs.Least.{fault, fault_if}
use Rattle.prism_check.specs.Counted.{sizes_of}
use Rattle.prism_check.proofs.Measured.{nodes_counted, height_counted}

commands_counted : (file : File) → command_count (flat file) ≡ command_count file
commands_counted file =
    ap (sum_by (λ p. length p.commands)) (parts-flat file)
    ∙ sum_by-map (λ p. length p.commands) (flat_part file) (parts file)
    ∙ ap (λ (f : Part → ℕ). sum_by f (parts file)) (fun_ext (λ p. length-map p.commands (flat_command file p.rename)))

part_actions_counted : (file : File) (p : Part) → part_actions (flat_part file p) ≡ part_actions p
part_actions_counted file p =
    flat_map-map (λ c. if_some (option_map (λ a. a.name) c.action)) (flat_command file p.rename) p.commands
    ∙ ap (λ (f : Command → List Name). flat_map f p.commands) (fun_ext (λ c. one c.action))
  where
    one : (o : Option Named) → if_some (option_map (λ a. a.name) (option_map (flat_name file p.rename) o)) ≡ if_some (option_map (λ a. p.rename a.name) o)
    one None = refl
    one (Some a) = refl

actions_counted : (file : File) → action_count (flat file) ≡ action_count file
actions_counted file =
    ap (λ xs. length (firsts bytes_eq xs))
    (ap (flat_map part_actions) (parts-flat file) ∙ flat_map-map part_actions (flat_part file) (parts file)
    ∙ ap (λ (f : Part → List Name). flat_map f (parts file)) (fun_ext (part_actions_counted file)))

rewards_counted : (file : File) → has_long_rewards (flat file) ≡ has_long_rewards file
rewards_counted file =
    any-map (λ r. nat_lt 1024 (length r.items)) (flat_rewards file) file.rewards
    ∙ ap (λ (f : Rewards → Bool). list_any f file.rewards) (fun_ext (λ r. ap (nat_lt 1024) (length-map r.items (flat_item file))))

vectors_counted : (file : File) → has_many_vectors (flat file) ≡ has_many_vectors file
vectors_counted file =
    ap₂ (λ m a. nat_lt 4000000 ((m + 1) * (m + a))) (length-map file.modules (flat_module file)) (actions_counted file)

pub limits_counted : LimitsCounted
limits_counted file =
    ap₂ (λ n h. nat_lt 2000000 n || (nat_lt height_limit h || (nat_lt 200000 (command_count (flat file)) || (has_long_rewards (flat file) || has_many_vectors (flat file)))))
    (nodes_counted file) (height_counted file)
    ∙ ap₂ (λ c b. nat_lt 2000000 (counted_nodes file) || (nat_lt height_limit (counted_height file) || (nat_lt 200000 c || b)))
    (commands_counted file) (ap₂ (λ r v. r || v) (rewards_counted file) (vectors_counted file))

-- ---- what follows from one limit that is passed, and from none
passed : (limit count n : ℕ) → count ≡ capped n → limit < count → nat_lt limit n ≡ true
passed limit count n e h = lt-ltb limit n (omega (arith, e))

kept : (limit count n : ℕ) → count ≡ capped n → limit < 2 ^ 64 - 1 → count ≤ limit → nat_lt limit n ≡ false
kept limit count n e fits h = le-ltb limit n (omega (arith, e))

module _ (file : File) where
  abbrev many_nodes : Bool
  many_nodes = nat_lt 2000000 (counted_nodes file)

  abbrev high : Bool
  high = nat_lt height_limit (counted_height file)

  abbrev many_commands : Bool
  many_commands = nat_lt 200000 (command_count file)

  too_large : (many_nodes || (high || (many_commands || (has_long_rewards file || has_many_vectors file)))) ≡ true → TooLarge ≡ sizes_of file
  too_large h = ap (λ b. if b then TooLarge else Within (command_count file)) (sym (limits_counted file ∙ h))

  pub nodes_pass : (k : ℕ) → k ≡ capped (counted_nodes file) → 2000000 < k → TooLarge ≡ sizes_of file
  nodes_pass k e h = too_large (or_left many_nodes _ (passed 2000000 k (counted_nodes file) e h))

  pub height_passes : (k : ℕ) → k ≡ capped (counted_height file) → height_limit < k → TooLarge ≡ sizes_of file
  height_passes k e h = too_large (or_right many_nodes _ (or_left high _ (passed height_limit k (counted_height file) e h)))

  pub commands_pass : (k : ℕ) → k ≡ capped (command_count file) → 200000 < k → TooLarge ≡ sizes_of file
  commands_pass k e h = too_large (or_right many_nodes _ (or_right high _ (or_left many_commands _ (passed 200000 k (command_count file) e h))))

  pub rewards_pass : has_long_rewards file ≡ true → TooLarge ≡ sizes_of file
  rewards_pass h = too_large (or_right many_nodes _ (or_right high _ (or_right many_commands _ (or_left (has_long_rewards file) _ h))))

  pub vectors_pass : has_many_vectors file ≡ true → TooLarge ≡ sizes_of file
  vectors_pass h = too_large (or_right many_nodes _ (or_right high _ (or_right many_commands _ (or_right (has_long_rewards file) _ h))))

  pub none_passes : (n h k : ℕ) → n ≡ capped (counted_nodes file) → n ≤ 2000000 → h ≡ capped (counted_height file) → h ≤ height_limit →
      k ≡ capped (command_count file) → k ≤ 200000 → has_long_rewards file ≡ false → has_many_vectors file ≡ false → Within k ≡ sizes_of file
  none_passes n h k en ln eh lh ek lk r v =
      let same : command_count file ≡ k = omega (arith, ek, lk) in
      ap₂ (λ b c. if b then TooLarge else Within c)
      (sym (limits_counted file
      ∙ or_from many_nodes _ (kept 2000000 n (counted_nodes file) en (omega arith) ln)
      (or_from high _ (kept height_limit h (counted_height file) eh (omega arith) lh)
      (or_from many_commands _ (kept 200000 k (command_count file) ek (omega arith) lk)
      (or_from (has_long_rewards file) (has_many_vectors file) r v)))))
      (sym same)

-- ---- what the answer says of the faults
pub too_large_faults : (file : File) → TooLarge ≡ sizes_of file → size_faults file ≡ fault 0 Oversized ∷ []
too_large_faults file h = by_test (passes_limit (flat file)) h
  where
    by_test : (b : Bool) → TooLarge ≡ (if b then TooLarge else Within (command_count file)) → fault_if b 0 Oversized ≡ fault 0 Oversized ∷ []
    by_test true e = refl
    by_test false e = absurd cc

pub within_faults : (file : File) (k : ℕ) → Within k ≡ sizes_of file → (size_faults file ≡ []) × (k ≡ command_count file)
within_faults file k h = by_test (passes_limit (flat file)) h
  where
    by_test : (b : Bool) → Within k ≡ (if b then TooLarge else Within (command_count file)) → (fault_if b 0 Oversized ≡ []) × (k ≡ command_count file)
    by_test true e = absurd cc
    by_test false e = (refl, cc)
