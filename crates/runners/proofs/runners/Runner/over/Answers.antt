use Rattle.std.proofs.Common.{◌∙◌, ap, refl}
use Rattle.regionrun.specs.Right.{region_count}
use Rattle.runners.proofs.Starting.{starting}
use Rattle.runners.proofs.runners.Runner.over.Goals as goal

pub returns-clause-good : goal.returns-clause-good
returns-clause-good g c =
    starting g.L.Law.meaning g.S.EntryStub.strand_of g.S.EntryStub.entered_of c.args.tag.now _
    c.requires.tag c.requires.strand c.requires.writer c.requires.readers c.number-number.ensures
    refl
    (c.count_regions-regions.ensures
    ∙ ap (region_count c.args.tag.now.layout.now) c.number-number.ensures)
