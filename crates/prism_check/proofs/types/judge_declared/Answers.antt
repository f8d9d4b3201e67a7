use Rattle.prism_check.proofs.types.judge_declared.Goals as goal

pub judge_typed-judged-requires : goal.judge_typed-judged-requires
judge_typed-judged-requires c = record {
  order = c.requires.order;
  modules = c.requires.modules;
  declared = c.in_ok-declared.ensures;
}
