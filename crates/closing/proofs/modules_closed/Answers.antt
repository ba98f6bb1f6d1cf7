-- `closing::modules_closed` meets its contract: every pick of the modules symbol and the value.
use Rattle.meaning.specs.Sets.{node_sets}
use Rattle.std.proofs.Common.{rules}
use Rattle.meaning.specs.Rules.{broken18}
use Rattle.closing.proofs.Laws.{closes18}
use Rattle.closing.proofs.modules_closed.Goals as goal

pub returns : goal.returns
returns c =
    let m = c.args.m.now in
    let ys = c.args.ys.now in
    closes18 m ys (node_sets m ys) c.args.s c.modules-symbol.ensures.0 c.at-modules.ensures c.at-value.ensures (c.every_pick-all.ensures (λ o p d v. broken18 o v) (λ v p d l r lv lp ld ll e. search rules))
