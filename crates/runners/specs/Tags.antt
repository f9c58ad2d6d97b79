-- What holds of the tag of a run.
use Rattle.std.specs.Prelude.{◌≡◌, ℕ, ◌<◌, ◌≤◌, length, slice_index_or}
use Rattle.case_model.specs.Meaning.{Meaning}
use Rattle.case_model.specs.declared.meshes.Mesh.{Mesh}
use Rattle.endhistory.specs.declared.history.History.{History}
use Rattle.histories.specs.Blocks.{block_width}
use Rattle.histories.specs.Opened.{AreHistories}
use Rattle.regions.specs.LaidOut.{IsCutFor}
use Rattle.regions.specs.declared.shapes.Layout.{Layout}
use Rattle.runners.specs.declared.tags.RunTag.{RunTag}
use Rattle.schedule.specs.LayoutNets.{layout_net}
use Rattle.schedule.specs.Nets.{IsSameNet}
use Rattle.schedule.specs.Plans.{net_of}

module _ {L : Type 0} where
  -- the history of strand x
  abbrev pub history_of : RunTag L → ℕ → History → History
  history_of tag x d = slice_index_or tag.histories.now x d

  -- the layout is a cut of the case's mesh, which the law fits, the plan has the neighbours of its
  -- strands, and the histories are those of its strands
  pub record IsRunTag (meaning : L → Meaning) (tag : RunTag L) : Type 0 where
    pub cut : IsCutFor tag.case.now tag.layout.now tag.mesh.now
    pub mesh_is : tag.mesh.now ≡ (meaning tag.law.now).mesh
    pub slots : ℕ
    pub planned : IsSameNet (layout_net tag.layout.now (meaning tag.law.now).mesh slots)
        (net_of tag.plan.now)
    pub histories : AreHistories (meaning tag.law.now) tag.layout.now slots tag.histories.now

-- so many words are enough for a block of each strand
abbrev pub HasRoom : Layout → Mesh → ℕ → Type 0
HasRoom layout mesh words = (y : ℕ) → y < length layout.shapes → block_width layout mesh y ≤ words
