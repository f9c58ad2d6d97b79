-- Strands and sides of a layout are a net.
use Rattle.std.proofs.Common.{ℕ, ◌≤◌, not, ap, ◌∙◌}
use Rattle.case_model.specs.declared.meshes.Mesh.{Mesh}
use Rattle.regions.specs.declared.shapes.Layout.{Layout}
use Rattle.regions.specs.LaidOut.{IsLaidOut}
use Rattle.regions.specs.Sides.{AreMutual}
use Rattle.regions.proofs.Sound.{laid_mutual}
use Rattle.schedule.specs.LayoutNets.{layout_net}
use Rattle.schedule.specs.Nets.{IsNet}

net-over : (layout : Layout) (mesh : Mesh) (slots : ℕ) → AreMutual layout mesh → 1 ≤ slots → IsNet (layout_net layout mesh slots)
net-over layout mesh slots m some = record {
  some = some;
  strand = m.inside;
  index = m.index;
  again = m.again;
  twice = m.twice;
  section = λ x j h l e. m.kinds x j h l ∙ ap not e;
  station = λ x j h l e. m.kinds x j h l ∙ ap not e;
}

pub net-of_layout : (layout : Layout) (mesh : Mesh) (slots : ℕ) → IsLaidOut layout mesh → 1 ≤ slots → IsNet (layout_net layout mesh slots)
net-of_layout layout mesh slots l some = net-over layout mesh slots (laid_mutual layout mesh l) some
