use Rattle.std.proofs.Common.{arith}
use Rattle.regionrun.proofs.lawful.layouts_are_lawful.Goals as goal

pub returns : goal.returns
returns c = λ layout mesh l.
    let a = c.layouts_are_sound.ensures.mesh layout mesh l in
    let numbered = c.accepted_meshes_are_sound.ensures.numbered mesh a in
    let steps = c.layouts_are_sound.ensures.steps l.case layout mesh l.cut in
    let some = l.cut.accepted.read.some_steps in
    record {
      laid_out = l;
      good = c.accepted_meshes_are_sound.ensures.mesh mesh a;
      numbered = numbered;
      limited = c.accepted_meshes_are_sound.ensures.limited mesh a;
      wired = c.accepted_meshes_are_sound.ensures.wired mesh a;
      rising = c.accepted_meshes_are_sound.ensures.rising mesh a;
      told = record {
        place = λ at h. c.numbers_tell_places.ensures.place mesh at numbered h;
        below = λ at h. c.numbers_tell_places.ensures.below mesh at numbered h;
        on = λ k h. c.numbers_tell_places.ensures.on mesh k numbered h;
        number = λ k h. c.numbers_tell_places.ensures.number mesh k numbered h;
      };
      whole = c.layouts_are_sound.ensures.whole layout mesh l;
      partition = c.regions_are_a_partition.ensures layout mesh l;
      sides = c.sides_are_mutual.ensures layout mesh l;
      touching = c.strands_touch.ensures layout mesh l;
      written = c.blocks_are_in_order.ensures.written layout mesh l;
      enough = c.needs_are_enough.ensures layout mesh l;
      steps = omega arith;
    }
