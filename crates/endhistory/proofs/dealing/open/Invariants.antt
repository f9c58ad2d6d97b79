use Rattle.endhistory.proofs.dealing.open.Given as goal

-- the blocks of the tag
abbrev pub ghosts-add_writer : goal.ghosts-add_writer
ghosts-add_writer g a = record { given = g.T.BlockTag.blocks a.tag.now }
