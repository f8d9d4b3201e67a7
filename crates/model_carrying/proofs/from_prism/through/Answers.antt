use Rattle.model_carrying.specs.Pairs.{counterpart_of}
use Rattle.model_carrying.proofs.Started.{meet_to_jani}
use Rattle.model_carrying.proofs.from_prism.through.Goals as goal

pub returns : goal.returns
returns g c = λ d e k lang pair begins starts.
    c.ended.ensures d e k lang (c.both-both.ensures.begins d (counterpart_of e c.args.map.now) k pair begins starts)

pub ended-requires : goal.ended-requires
ended-requires g c =
    meet_to_jani g.S.Steps.process g.T.Steps.process c.args.map.now c.args.here c.args.there c.both-both.result c.both-both.ensures.from c.requires
