use Rattle.std.proofs.Common.{◌≡◌, ◌*◌, arith, length}
use Rattle.regionrun.proofs.Keeping.{right-words}
use Rattle.regionrun.proofs.Wording.{given-of}
use Rattle.regionrun.proofs.frontiers.Frontier.load_words.Goals as goal

pub load-requires-clause-given : goal.load-requires-clause-given
load-requires-clause-given g c κs within = record {
  layout = c.requires.wanted.layout;
  given = given-of (g.L.Law.meaning c.args.law.now) c.requires.wanted.layout c.args.self.now
      c.args.side c.args.words.now c.keeps_range.ensures c.requires.wanted.wanted;
}

pub load-requires-clause-each : goal.load-requires-clause-each
load-requires-clause-each g c κs within =
    let size : length c.args.words.now ≡ 4 * c.args.self.now.window =
    right-words (g.L.Law.meaning c.args.law.now) c.requires.wanted.layout c.args.self.now
    c.args.side c.args.words.now c.requires.wanted.wanted in
    omega arith

pub returns-clause-right : goal.returns-clause-right
returns-clause-right g c = λ layout wanted.
    c.load.ensures.right layout
    (given-of (g.L.Law.meaning c.args.law.now) layout c.args.self.now
    c.args.side c.args.words.now c.keeps_range.ensures wanted)
