use Rattle.std.specs.Prelude.{◌++◌, List, length, drop, take}

-- a list of items of which as many of the first as `written` has were written, and no more than
-- there are
abbrev pub rewritten : {X : Type 0} → List X → List X → List X
rewritten items written = take (length items) (written ++ drop (length written) items)
