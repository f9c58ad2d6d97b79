use Rattle.std.proofs.Common.{◌≡◌, ◌≤◌, length, take}
use Rattle.std.specs.List.{filter}
use Rattle.regions.specs.Sides.{is_section_shape}
use Rattle.report.proofs.divisions.count_sections.Given as goal

abbrev pub invariant-loop-shape : goal.invariant-loop-shape
invariant-loop-shape l = record {
  count : l.count ≡ length (filter is_section_shape (take l.shape-index l.shapes));
  few : l.count ≤ l.shape-index;
}
