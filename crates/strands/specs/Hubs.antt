-- The strand of a node: the node's state, and a spoke for each pipe end at it.
use Rattle.std.specs.Prelude.{◌≡◌, ℕ, ◌+◌, ◌^◌, ◌<◌, ◌≤◌, ◌≢◌, ◌==◌, ◌&&◌, nat_le, nat_lt}
use Rattle.std.specs.Prelude.{Bool, true, false, List, length, slice_index_or}
use Rattle.case_model.specs.Meaning.{Meaning}
use Rattle.case_model.specs.Mesh.{IsNumbered, end_index, end_node, ends_of, reaches}
use Rattle.case_model.specs.Rows.{row}
use Rattle.case_model.specs.declared.meshes.End.{End}
use Rattle.case_model.specs.declared.meshes.Mesh.{Mesh}
use Rattle.case_model.specs.declared.meshes.TheConstants.{MOST_ENDS}
use Rattle.case_model.specs.declared.points.Point.{Point}
use Rattle.envelope.specs.Cells.{is_within}
use Rattle.envelope.specs.Folds.{IsSameFold, Stands, spans_of}
use Rattle.envelope.specs.declared.folds.Fold.{Fold}
use Rattle.fronts.specs.Stretches.{count_of}
use Rattle.strands.specs.Marks.{Marks, is_only, marked, or_marked}
use Rattle.strands.specs.Spokes.{IsNewSpoke, IsSameSpoke, IsSpokeAfter, IsSpokeAt, NotesSpoke}
use Rattle.strands.specs.Spokes.{ends_marks, spoke_inner, spoke_outer, spokes_marks}
use Rattle.strands.specs.Blocks.{HasPoints}
use Rattle.strands.specs.Stations.{half}
use Rattle.strands.specs.declared.hubs.Hub.{Hub}
use Rattle.strands.specs.declared.spokes.Spoke.{Spoke}

-- an end of a node that can have a spoke for windows of w steps; it is that of number `index`
pub record IsHubEnd (mesh : Mesh) (w node index : ℕ) (end : End) : Type 0 where
  pub on_mesh : end.pipe < length mesh.pipes
  pub long : half w ≤ reaches mesh end.pipe
  pub node_is : end_node mesh end.pipe end.at_last ≡ node
  pub index_is : end_index mesh end.pipe end.at_last ≡ index

-- a node of which each end can
pub record IsHubNode (mesh : Mesh) (w node : ℕ) : Type 0 where
  pub there : node < length mesh.ends
  pub few : length (ends_of mesh node) ≤ MOST_ENDS
  pub ends : (i : ℕ) (d : End) → i < length (ends_of mesh node)
      → IsHubEnd mesh w node i (slice_index_or (ends_of mesh node) i d)

-- the spoke of end number `index` of a node
pub record IsSpokeOf (mesh : Mesh) (node index : ℕ) (spoke : Spoke) : Type 0 where
  pub end_is : (d : End) → slice_index_or (ends_of mesh node) index d
      ≡ record { pipe = spoke.stretch.pipe; at_last = spoke.last }
  pub node_is : end_node mesh spoke.stretch.pipe spoke.last ≡ node
  pub index_is : end_index mesh spoke.stretch.pipe spoke.last ≡ index

-- a relation of each of some spokes and its number
abbrev pub EachSpoke : (ℕ → Spoke → Type 0) → List Spoke → Type 0
EachSpoke P spokes = (i : ℕ) (d : Spoke) → i < length spokes → P i (slice_index_or spokes i d)

-- the first `count` spokes of these ends, as they are made
pub record AreNewSpokes (law : Meaning) (w : ℕ) (ends : List End) (count : ℕ)
    (spokes : List Spoke) : Type 0 where
  pub each : length spokes ≡ count
  pub made : (i : ℕ) (d : End) (e : Spoke) → i < count
      → IsNewSpoke law w (slice_index_or ends i d) (slice_index_or spokes i e)

-- a hub of a node of the mesh, with a spoke for each of the node's ends
pub record IsHub (law : Meaning) (hub : Hub) : Type 0 where
  pub numbered : IsNumbered law.mesh
  pub there : hub.node < length law.mesh.ends
  pub each : length hub.spokes.items ≡ length (ends_of law.mesh hub.node)
  pub few : length hub.spokes.items ≤ MOST_ENDS
  pub ends : EachSpoke (IsSpokeOf law.mesh hub.node) hub.spokes.items

-- a hub that is computed up to step s, with the blocks that are loaded for the window from it on
pub record IsHubAt (law : Meaning) (w s : ℕ) (hub : Hub) : Type 0 where
  pub on_mesh : IsHub law hub
  pub state_is : hub.state ≡ (row law s).state hub.node
  pub spokes : EachSpoke (λ i. IsSpokeAt law w s) hub.spokes.items

-- a hub of which k steps of the window from step s on are computed
pub record IsHubAfter (law : Meaning) (w s k : ℕ) (hub : Hub) : Type 0 where
  pub on_mesh : IsHub law hub
  pub state_is : hub.state ≡ (row law (s + k)).state hub.node
  pub spokes : EachSpoke (λ i. IsSpokeAfter law w s k) hub.spokes.items

-- whether the block of every side, or that of none, is loaded
abbrev pub IsLoaded : Bool → Hub → Type 0
IsLoaded loaded hub = EachSpoke (λ i spoke. spoke.loaded ≡ loaded) hub.spokes.items

-- the hub that is made of a node
pub record IsNewHub (law : Meaning) (w node : ℕ) (hub : Hub) : Type 0 where
  pub at : IsHubAt law w 0 hub
  pub node_is : hub.node ≡ node
  pub bare : IsLoaded false hub

-- two hubs of the same node, with the same spokes
pub record IsSameHub (old new : Hub) : Type 0 where
  pub node_is : new.node ≡ old.node
  pub each : length new.spokes.items ≡ length old.spokes.items
  pub spokes : (i : ℕ) (d : Spoke) → i < length old.spokes.items
      → IsSameSpoke (slice_index_or old.spokes.items i d) (slice_index_or new.spokes.items i d)

-- the spokes of a hub, in the order of its node's ends: one at each side
abbrev pub spokes_of : Hub → List Spoke
spokes_of hub = hub.spokes.items

-- each spoke has a place beside its end, and place numbers below 2^32
abbrev pub AreSized : List Spoke → Type 0
AreSized spokes =
    EachSpoke (λ i spoke. (2 ≤ count_of spoke.stretch)
    × (spoke.stretch.number + count_of spoke.stretch < 2 ^ 32)) spokes

-- the spokes are those for windows of w steps
abbrev pub IsForWindow : ℕ → Hub → Type 0
IsForWindow w hub =
    EachSpoke (λ i spoke. (1 ≤ w) × (count_of spoke.stretch ≡ half w + 1)) hub.spokes.items

-- the block of side number `side` is loaded, and nothing else that hubs are made of has changed
pub record IsSideLoaded (side : ℕ) (old new : Hub) : Type 0 where
  pub same : IsSameHub old new
  pub state_is : new.state ≡ old.state
  pub here : (d : Spoke) → (slice_index_or new.spokes.items side d).loaded ≡ true
  pub others : (i : ℕ) (d : Spoke) → i ≢ side
      → (slice_index_or new.spokes.items i d).loaded ≡ (slice_index_or old.spokes.items i d).loaded

-- a block has the points that side number `side` takes in, or those that it hands on
abbrev pub HasOuter : Meaning → ℕ → ℕ → ℕ → Hub → (ℕ → Point → Type 0) → Type 0
HasOuter law w s side hub tells =
    (d : Spoke) → HasPoints w (spoke_outer law w s (slice_index_or hub.spokes.items side d)) tells

abbrev pub HasInner : Meaning → ℕ → ℕ → ℕ → Hub → (ℕ → Point → Type 0) → Type 0
HasInner law w s side hub tells =
    (d : Spoke) → HasPoints w (spoke_inner law w s (slice_index_or hub.spokes.items side d)) tells

-- the fold has the node, and each spoke's end and triangle
pub record NotesHub (hub : Hub) (fold : Fold) : Type 0 where
  pub node : is_within (spans_of fold) hub.node ≡ true
  pub spokes : EachSpoke (λ i spoke. NotesSpoke spoke fold) hub.spokes.items

-- the steps after the first `from` up to `until` of those after step s, at one place
abbrev pub is_passed : ℕ → ℕ → ℕ → ℕ → Marks
is_passed s from until place t p = (p == place) && (nat_lt (s + from) t && nat_le t (s + until))

-- these steps of the window from step s on, at the node and at its spokes
abbrev pub hub_marks : ℕ → ℕ → ℕ → ℕ → Hub → Marks
hub_marks w s from until hub =
    or_marked (spokes_marks w s from until hub.spokes.items) (is_passed s from until hub.node)

-- step 0 at the node and at the ends of its spokes
abbrev pub start_marks : ℕ → Hub → Marks
start_marks w hub = or_marked (ends_marks w hub.spokes.items) (is_only 0 hub.node)

-- the steps of a window after the first `from` up to `until` compute a hub further, and the fold
-- was told of them
pub record IsHubStepped (law : Meaning) (w s from until : ℕ) (old new : Hub) (before after : Fold)
    : Type 0 where
  pub same : IsSameHub old new
  pub computed : IsHubAfter law w s until new
  pub same_fold : IsSameFold before after
  pub stands : (marks : Marks) → Stands before (marked law marks)
      → Stands after (marked law (or_marked marks (hub_marks w s from until old)))
